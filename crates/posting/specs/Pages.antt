-- Lines put onto a page.
--   Put       a record's line stands on a page, and the record took a basin to another
--   Went      the first records of a block took a basin to another, with their lines (the latest first)
--   Blocked   a whole block, seen from outside and by the basins themselves
use Rattle.std.specs.Prelude.{◌≡◌, ℕ, ◌+◌, ◌≤◌, List, [], ◌∷◌, ◌++◌, length, take, drop}
use Rattle.storages.specs.declared.meaning.Storage as storage
use Rattle.storages.specs.declared.meaning.Tapped as tapped
use Rattle.banks.specs.declared.meaning.Bank as bank
use Rattle.basin.specs.Basins.{view}
use Rattle.basin.specs.declared.basin.Basin.{Basin}
use Rattle.lines.specs.Text.{text}
use Rattle.lines.specs.declared.Line.{Line}
use Rattle.posting.specs.Posting.{Posts}
use Rattle.posting.specs.Feeds.{record_at, count, Filled}

module _ {B C : Type 0} (G : bank.Ghosts B) (S : storage.Ghosts C) (T : tapped.Ghosts C) where
  -- a record takes a basin to another; its line, of n bytes, stands from `at` on, and the rest is as it was
  pub record Put (b : Basin B C G S) (bytes old : List ℕ) (at n : ℕ) (new : List ℕ) (c : Basin B C G S) : Type 0 where
    pub told : Line
    pub posts : Posts G S T b bytes told c
    pub size : n ≡ length (text told)
    pub fits : n ≤ 192
    pub front : take (at + n) new ≡ take at old ++ text told
    pub rest : drop (at + n) new ≡ drop (at + n) old

  pub data Went (block : List ℕ) (b : Basin B C G S) : ℕ → List Line → Basin B C G S → Type 0 where
    start : Went block b 0 [] b
    next : {i : ℕ} {ls : List Line} {u : Basin B C G S} {l : Line} {c : Basin B C G S} → Went block b i ls u → Posts G S T u (record_at block i) l c → Went block b (i + 1) (l ∷ ls) c

  -- a block posted onto a page: each record did to the basin what it asks for, and its line is on the page
  pub record Blocked (b : Basin B C G S) (block old : List ℕ) (n : ℕ) (new : List ℕ) (c : Basin B C G S) : Type 0 where
    pub filled : Filled (view G S b) block old n new (view G S c)
    pub went : Went block b (count block) filled.lines c
