-- Record after record: the lines so far stand at the front of the page.
use Rattle.std.proofs.Common.{◌≡◌, ◌+◌, ◌-◌, ◌*◌, ◌≤◌, min, [], ◌∷◌, ◌++◌, length, take, drop, sym, refl, ap, ◌∙◌, subst, arith, length-append, length-drop, length-take}
use Rattle.std.proofs.lemmas.List.{drop-drop, take-append-drop}
use Rattle.std.specs.Slice.Iter.{chunks_rest, chunks_size}
use Rattle.basin.specs.Basins.{view}
use Rattle.lines.specs.Text.{text}
use Rattle.posting.specs.Feeds.{Fed, none, more, record_at, texts, count}
use Rattle.posting.specs.Pages.{Went, start, next}
use Rattle.posting.specs.Posting.{Posts}
use Rattle.posting.proofs.Feeds.{goes_on}
use Rattle.posting.proofs.Pages.{cut_front, seen}
use Rattle.posting.proofs.page.post_block.Goals as goal

pub loop-record-init : goal.loop-record-init
loop-record-init g c =
    let it = c.into_iter-record-iterator.ensures.into_iter_gives in
    (ap chunks_size it ∙ c.chunks-record-items.ensures.size, ap chunks_rest it ∙ c.chunks-record-items.ensures.rest, omega arith, omega arith, ([], none, start, refl, refl))

pub loop-record-preserved : goal.loop-record-preserved
loop-record-preserved g c =
    let i = c.loop-record.invariant in
    let p = c.post_at-at.ensures in
    let at = c.loop-record.at in
    let n = c.post_at-at.result in
    let block = c.args.block.now in
    let k = length c.loop-record.yielded in
    let v = view g.B.Bank g.C.Storage c.args.basin.now in
    let w = view g.B.Bank g.C.Storage c.post_at-at.new.basin in
    let x = c.in-Some.record.now in
    let s = c.in-Some.ensures {u = tt} in
    let one : length (c.loop-record.yielded ++ c.in-Some.record ∷ []) ≡ k + 1 = length-append c.loop-record.yielded (c.in-Some.record ∷ []) in
    let left : length (chunks_rest c.loop-record.record-iterator) ≡ length block - 16 * k = ap length i.1 ∙ length-drop (16 * k) block in
    let cut = cut_front 16 (chunks_rest c.loop-record.record-iterator) x (chunks_rest c.next.new.self) s.steps.1.0 (s.steps.1.1 ∙ ap (λ m. min m (length (chunks_rest c.loop-record.record-iterator))) i.0) in
    let here : x ≡ record_at block k = cut.0 ∙ ap (take 16) i.1 in
    let posts : Posts g.B.Bank g.C.Storage g.C.Tapped c.loop-record.basin (record_at block k) p.told c.post_at-at.new.basin = subst (λ r. Posts g.B.Bank g.C.Storage g.C.Tapped c.loop-record.basin r p.told c.post_at-at.new.basin) here p.posts in (
      s.steps.0 ∙ i.0,
      cut.1 ∙ ap (drop 16) i.1 ∙ drop-drop 16 (16 * k) block ∙ ap (λ m. drop m block) (omega (arith, one)),
      omega (arith, one, left, s.steps.1.2),
      omega (arith, i.3, p.fits, one),
      (
        p.told ∷ i.4.0,
        subst (λ m. Fed block v m (p.told ∷ i.4.0) w) (sym one) (more i.4.1 (seen g.B.Bank g.C.Storage g.C.Tapped c.loop-record.basin (record_at block k) p.told c.post_at-at.new.basin posts)),
        subst (λ m. Went g.B.Bank g.C.Storage g.C.Tapped block c.args.basin.now m (p.told ∷ i.4.0) c.post_at-at.new.basin) (sym one) (next i.4.2 posts),
        p.front ∙ ap (λ y. y ++ text p.told) i.4.3,
        p.rest ∙ sym (drop-drop n at c.loop-record.page) ∙ ap (drop n) i.4.4 ∙ drop-drop n at c.args.page.now,
      ),
    )

pub returns : goal.returns
returns g c =
    let i = c.loop-record.invariant in
    let at = c.loop-record.at in
    let block = c.args.block.now in
    let k = length c.loop-record.yielded in
    let v = view g.B.Bank g.C.Storage c.args.basin.now in
    let w = view g.B.Bank g.C.Storage c.loop-record.basin in
    let left : length (chunks_rest c.loop-record.record-iterator) ≡ length block - 16 * k = ap length i.1 ∙ length-drop (16 * k) block in
    let whole : k ≡ count block = omega (arith, left, i.2, (c.in-None.ensures {u = tt}).steps.1) in
    let within : at ≤ length c.loop-record.page = omega (arith, i.3) in
    let long : at ≡ length (take at c.loop-record.page) = simp length-take (omega arith) in
    let fed = subst (λ n. Fed block v n i.4.0 w) whole i.4.1 in (
      (omega arith, tt),
      record {
        filled = record {
          lines = i.4.0;
          size = long ∙ ap length i.4.3;
          fits = omega arith;
          bytes = sym (take-append-drop at c.loop-record.page) ∙ ap (λ x. x ++ drop at c.loop-record.page) i.4.3 ∙ ap (λ x. texts i.4.0 ++ x) i.4.4;
          fed = fed;
          onward = λ o feed j ls h f. goes_on feed block j h f fed;
        };
        went = subst (λ n. Went g.B.Bank g.C.Storage g.C.Tapped block c.args.basin.now n i.4.0 c.loop-record.basin) whole i.4.2;
      },
    )
