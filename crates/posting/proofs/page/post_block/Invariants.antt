-- After some records their lines stand at the front of the page, and the rest of it is as it was.
use Rattle.std.proofs.Common.{◌≡◌, ◌+◌, ◌*◌, ◌<◌, ◌≤◌, List, length, take, drop}
use Rattle.std.specs.Slice.Iter.{chunks_rest, chunks_size}
use Rattle.basin.specs.Basins.{view}
use Rattle.lines.specs.declared.Line.{Line}
use Rattle.posting.specs.Feeds.{Fed, texts}
use Rattle.posting.specs.Pages.{Went}
use Rattle.posting.proofs.page.post_block.Given as goal

abbrev pub invariant-loop-record : goal.invariant-loop-record
invariant-loop-record g l =
    (chunks_size l.record-iterator ≡ 16)
    × (chunks_rest l.record-iterator ≡ drop (16 * length l.yielded) l.block)
    × (16 * length l.yielded < length l.block + 16)
    × (l.at ≤ 192 * length l.yielded)
    × ((ls : List Line) × Fed l.block (view g.B.Bank g.C.Storage l.initial.basin) (length l.yielded) ls (view g.B.Bank g.C.Storage l.basin) × Went g.B.Bank g.C.Storage g.C.Tapped l.block l.initial.basin (length l.yielded) ls l.basin × (take l.at l.page ≡ texts ls) × (drop l.at l.page ≡ drop l.at l.initial.page))
