-- Feeds: records added, blocks joined, and the law of what is printed.
use Rattle.std.proofs.Common.{◌≡◌, ℕ, ◌+◌, ◌*◌, ◌≤◌, List, [], ◌∷◌, ◌++◌, map, length, take, drop, Ok, Err, Result, sym, refl, ap, ◌∙◌, subst, add-zero, add_assoc, arith, length-drop, MatchResult}
use Rattle.std.proofs.lemmas.List.{take-append-le, drop-append-le, drop_at, drop-drop}
use Rattle.refusals.specs.Notices.{notice_of}
use Rattle.refusals.specs.declared.Refusal.{Refusal}
use Rattle.basin.specs.Law.{View, Entry, by_rain, by_turn, by_closing, New, nothing, joined, call, Hands, Ran}
use Rattle.basin.specs.Lists.{here}
use Rattle.basin.specs.Calls.{Called}
use Rattle.basin.proofs.Runs.{law}
use Rattle.feed.specs.Reading.{reading}
use Rattle.feed.specs.declared.Event.{Event}
use Rattle.feed.specs.declared.Event.TheVariants as event
use Rattle.lines.specs.declared.Line.{Line}
use Rattle.lines.specs.declared.Line.TheVariants as line
use Rattle.posting.specs.Posting.{Answered, Posted}
use Rattle.posting.specs.Feeds.{record_at, Fed, none, more, Tells, unread, made, alone, FeedLaw}

-- a record that a feed has whole is that of any longer feed
record_left : (feed block : List ℕ) (i : ℕ) → 16 * i + 16 ≤ length feed → record_at (feed ++ block) i ≡ record_at feed i
record_left feed block i h =
    ap (take 16) (drop-append-le (16 * i) feed block (omega arith)) ∙ take-append-le 16 (drop (16 * i) feed) block (simp length-drop (omega arith))

-- a record past a feed of whole records is one of the block behind it
record_right : (feed block : List ℕ) (i j : ℕ) → length feed ≡ 16 * i → record_at (feed ++ block) (i + j) ≡ record_at block j
record_right feed block i j h =
    let e : 16 * (i + j) ≡ 16 * i + 16 * j = omega arith in
    ap (λ n. take 16 (drop n (feed ++ block))) e ∙ ap (take 16) (sym (drop-drop (16 * j) (16 * i) (feed ++ block))) ∙ ap (λ l. take 16 (drop (16 * j) l)) (drop_at feed block (16 * i) h)

lengthened : (feed block : List ℕ) {o v : View} {i : ℕ} {ls : List Line} → 16 * i ≤ length feed → Fed feed o i ls v → Fed (feed ++ block) o i ls v
lengthened feed block h none = none
lengthened feed block h (more {i = i} {u = u} {l = l} {w = w} f p) = more (lengthened feed block (omega arith) f) (subst (λ r. Posted u r l w) (sym (record_left feed block i (omega arith))) p)

-- a feed goes on with a block
pub goes_on : (feed block : List ℕ) {o v w : View} (i : ℕ) {j : ℕ} {ls ms : List Line} → length feed ≡ 16 * i → Fed feed o i ls v → Fed block v j ms w → Fed (feed ++ block) o (i + j) (ms ++ ls) w
goes_on feed block {o = o} {v = v} i {ls = ls} h f none = subst (λ n. Fed (feed ++ block) o n ls v) (sym (add-zero i)) (lengthened feed block (omega arith) f)
goes_on feed block {o = o} {w = w} i {ls = ls} h f (more {i = j} {ls = ms} {u = u} {l = l} g p) =
    subst (λ n. Fed (feed ++ block) o n (l ∷ (ms ++ ls)) w) (add_assoc i j 1)
    (more (goes_on feed block i h f g) (subst (λ r. Posted u r l w) (sym (record_right feed block i j h)) p))

-- the calls of a feed
record SoFar (feed : List ℕ) (n : ℕ) (ls : List Line) (v w : View) : Type 0 where
  entries : List Entry
  lines : Tells feed n ls entries
  run : Ran Called (map call entries) (joined v nothing) (alone v entries w)

-- a call that brings and takes no parcel goes on with a run
call_on : (v u w : View) (es : List Entry) (e : Entry) → Called u e w → Hands e [] [] → Ran Called (map call es) (joined v nothing) (alone v es u) → Ran Called (map call (e ∷ es)) (joined v nothing) (alone v (e ∷ es) w)
call_on v u w es e c h r = (alone v es u, r, (here (record { told = refl; called = c }), h, refl))

answered : (feed : List ℕ) (i : ℕ) (ls : List Line) (v u w : View) (l : Line) (ev : Event) → reading (record_at feed i) ≡ Ok ev → Answered (λ e. Called u e w) ev l → SoFar feed i ls v u → SoFar feed (i + 1) (l ∷ ls) v w
answered feed i ls v u w l (event.Rain k p d) q (r, c, e) s = record { entries = by_rain k p d r ∷ s.entries; lines = made (event.Rain k p d) (by_rain k p d r) l s.lines q (r, refl, e); run = call_on v u w s.entries (by_rain k p d r) c refl s.run }
answered feed i ls v u w l event.Turn q (flow, deep, c, e) s = record { entries = by_turn flow deep ∷ s.entries; lines = made event.Turn (by_turn flow deep) l s.lines q (flow, deep, refl, e); run = call_on v u w s.entries (by_turn flow deep) c refl s.run }
answered feed i ls v u w l event.Closing q (b, c, e) s = record { entries = by_closing b ∷ s.entries; lines = made event.Closing (by_closing b) l s.lines q (b, refl, e); run = call_on v u w s.entries (by_closing b) c refl s.run }

posted : (feed : List ℕ) (i : ℕ) (ls : List Line) (v u w : View) (l : Line) (x : Result Event Refusal) → reading (record_at feed i) ≡ x → MatchResult x (λ ev. Answered (λ e. Called u e w) ev l) (λ f. (l ≡ line.Refused (notice_of f)) × (w ≡ u)) → SoFar feed i ls v u → SoFar feed (i + 1) (l ∷ ls) v w
posted feed i ls v u w l (Ok ev) q p s = answered feed i ls v u w l ev q p s
posted feed i ls v u w l (Err f) q p s = record {
  entries = s.entries;
  lines = subst (λ x. Tells feed (i + 1) (x ∷ ls) s.entries) (sym p.0) (unread f s.lines q);
  run = subst (λ x. Ran Called (map call s.entries) (joined v nothing) (alone v s.entries x)) (sym p.1) s.run;
}

so_far : (feed : List ℕ) {v w : View} {n : ℕ} {ls : List Line} → Fed feed v n ls w → SoFar feed n ls v w
so_far feed none = record { entries = []; lines = none; run = refl }
so_far feed {v = v} {w = w} (more {i = i} {ls = ls} {u = u} {l = l} f p) = posted feed i ls v u w l (reading (record_at feed i)) refl p (so_far feed f)

pub feed_law : (v : View) → New v → FeedLaw v
feed_law v n feed k ls w f =
    let s = so_far feed f in
    record { entries = s.entries; lines = s.lines; run = s.run; lawful = law v n [] nothing refl (map call s.entries) (alone v s.entries w) s.run }
