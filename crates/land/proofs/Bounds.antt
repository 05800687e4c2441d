-- How large the products of the hour can grow.
use Rattle.std.proofs.Common.{◌≡◌, ℕ, ◌-◌, ◌*◌, ◌/◌, ◌≤◌, refl, mul-le-mul_right, arith}
use Rattle.std.proofs.lemmas.Nat.{mul-le, le-div}
use Rattle.figures.specs.Power.{power}
use Rattle.figures.proofs.Parts.{div_falls}

-- the greatest power of a wetness
pub power_32 : power 32 ≡ 262144
unfolding power
power_32 = refl

-- infiltration figure i, interflow figure n, powers p of the exponent and r of the wetness
module _ (i n p r : ℕ) (hi : i ≤ 500000) (ln : 100 ≤ n) (hn : n ≤ 1000) (lp : 65536 ≤ p) (lr : 65536 ≤ r) (hr : r ≤ 262144) where
  pub soaks_most : 32 * i * 65536 / p ≤ 16000000
  soaks_most = let h = div_falls (32 * i * 65536) 65536 p (omega arith) lp in omega arith

  pub ratio_product : n * r ≤ 262144000
  ratio_product = mul-le n r 1000 262144 hn hr

  pub reaches_product : n * r / 100 * (32 * i * 65536 / p) ≤ 2621440 * 16000000
  reaches_product = let h = ratio_product in mul-le (n * r / 100) (32 * i * 65536 / p) 2621440 16000000 (omega arith) soaks_most

  -- interflow is never below zero: the second capacity is at least the first
  pub soaks_reaches : 32 * i * 65536 / p ≤ n * r / 100 * (32 * i * 65536 / p) / 65536
  soaks_reaches =
      let b : ℕ = 32 * i * 65536 / p in
      let w : 100 * 65536 ≤ n * r = mul-le 100 65536 n r ln lr in
      let h : 65536 * b ≤ n * r / 100 * b = mul-le-mul_right b (omega arith) in
      le-div b (n * r / 100 * b) 65536 (omega arith) (omega arith)

-- infiltration figure i, nominal content n, excess d
pub percolated : (i n d : ℕ) → i ≤ 500000 → n ≤ 2000000 → d ≤ 4096 → i * n / 10000000 * (d * d * d) ≤ 100000 * 68719476736
percolated i n d hi hn hd =
    let h : i * n ≤ 500000 * 2000000 = mul-le i n 500000 2000000 hi hn in
    let p : d * d ≤ 4096 * 4096 = mul-le d d 4096 4096 hd hd in
    let q : d * d * d ≤ 16777216 * 4096 = mul-le (d * d) d 16777216 4096 p hd in
    mul-le (i * n / 10000000) (d * d * d) 100000 68719476736 (omega arith) q

-- evapotranspiration figure t, lower zone l
pub opportune : (t l : ℕ) → t ≤ 943718 → l ≤ 100000000 → 250000 * 1048576 / (24 * (1048576 - t)) * l ≤ 104167 * 100000000
opportune t l h k =
    let m = div_falls (250000 * 1048576) (24 * 104858) (24 * (1048576 - t)) (omega arith) (omega arith) in
    mul-le (250000 * 1048576 / (24 * (1048576 - t))) l 104167 100000000 (omega arith) k
