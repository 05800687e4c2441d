-- Steps that are made of other steps keep the meaning of a step: over plain numbers.
use Rattle.std.specs.Prelude.{◌≡◌, ℕ, ◌+◌, ◌-◌, ◌*◌, ◌/◌, ◌≤◌}
use Rattle.std.proofs.Common.{ap, mul_comm, arith}
use Rattle.figures.proofs.Parts.{part_le}
use Rattle.storages.specs.Meaning.{Out, Stepped, whole}
use Rattle.storages.specs.Leak.{lost}

-- what is lost is a part of the inflow
pub lost_le : (loss i : ℕ) → loss ≤ 524288 → lost loss i ≤ i
lost_le loss i h =
    let turned : loss * i / whole ≡ i * loss / whole = ap (λ n. n / whole) (mul_comm loss i) in
    let part = part_le i loss whole (omega arith) in
    omega arith

-- a leak over a step
pub leak_stepped : (loss c m i d c' m' : ℕ) (inner o : Out) → loss ≤ 524288
    → Stepped c m (i - lost loss i) d inner c' m' → o ≡ (inner.0, inner.1, inner.2 + lost loss i) → Stepped c m i d o c' m'
leak_stepped loss c m i d c' m' inner o h s e =
    let l = lost_le loss i h in
    let release = ap (λ (p : Out). p.0) e in
    let evaporated = ap (λ (p : Out). p.1) e in
    let deep = ap (λ (p : Out). p.2) e in
    record { evaporation = omega arith; balance = omega arith; ceiling = s.ceiling }
