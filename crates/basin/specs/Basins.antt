-- A basin by what can be seen of it, and what its calls do to its bank and its channel.
use Rattle.std.specs.Prelude.{◌≡◌, ℕ, MatchResult}
use Rattle.storages.specs.Meaning.{Out}
use Rattle.storages.specs.declared.meaning.Storage as storage
use Rattle.storages.specs.declared.meaning.Tapped as tapped
use Rattle.banks.specs.Rows.{at}
use Rattle.banks.specs.declared.meaning.Bank as bank
use Rattle.basin.specs.Law.{View, Entry, by_rain, by_turn, by_draw, by_pour, by_closing, by_question}
use Rattle.basin.specs.Calls.{over}
use Rattle.basin.specs.declared.basin.Basin.{Basin}

abbrev pub view : {B C : Type 0} → (G : bank.Ghosts B) → (S : storage.Ghosts C) → Basin B C G S → View
view G S b = record { tracts = G.tracts b.bank; pocket = b.pocket; channel = S.holds b.channel; ceiling = S.limit b.channel; sums = b.sums }

-- the bank really rained, and the channel was left alone
pub record RainMoved {B C : Type 0} (G : bank.Ghosts B) (S : storage.Ghosts C) (b : Basin B C G S) (k depth demand : ℕ) (o : Out) (c : Basin B C G S) : Type 0 where
  pub depths : Out
  pub answer : o ≡ over (at (G.tracts b.bank) k).area depths
  pub bank : G.rains b.bank k depth demand depths c.bank
  pub channel : c.channel ≡ b.channel

-- the channel really stepped, with the pocket and no demand, and the bank was left alone
pub record TurnMoved {B C : Type 0} (G : bank.Ghosts B) (S : storage.Ghosts C) (b : Basin B C G S) (flow deep : ℕ) (c : Basin B C G S) : Type 0 where
  pub channel : S.steps b.channel b.pocket 0 (flow, 0, deep) c.channel
  pub bank : c.bank ≡ b.bank

-- nothing on the bank or in the channel moved
pub record Rested {B C : Type 0} (G : bank.Ghosts B) (S : storage.Ghosts C) (b c : Basin B C G S) : Type 0 where
  pub bank : c.bank ≡ b.bank
  pub channel : c.channel ≡ b.channel

-- what a call did to the basin itself; a refusal and a question leave it as it was
abbrev pub Moved : {B C : Type 0} → (G : bank.Ghosts B) → (S : storage.Ghosts C) → tapped.Ghosts C → Basin B C G S → Entry → Basin B C G S → Type 0
Moved G S T b (by_rain k depth demand r) c = MatchResult r (λ o. RainMoved G S b k depth demand o c) (λ f. c ≡ b)
Moved G S T b (by_turn flow deep) c = TurnMoved G S b flow deep c
Moved G S T b (by_draw n r) c = MatchResult r (λ p. T.draws b.channel n c.channel × (c.bank ≡ b.bank)) (λ f. c ≡ b)
Moved G S T b (by_pour n r) c = MatchResult r (λ u. Rested G S b c) (λ f. c ≡ b)
Moved G S T b (by_closing k) c = Rested G S b c
Moved G S T b (by_question k) c = c ≡ b
