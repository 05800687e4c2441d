-- A record's line stands on the page from `at` on.
use Rattle.std.proofs.Common.{◌≡◌, ◌-◌, ◌≤◌, length, take, drop, arith}
use Rattle.lines.specs.Text.{text, buffer_limits}
use Rattle.posting.specs.Posting.{Written}
use Rattle.posting.proofs.Pages.{granted, written_front, written_rest}
use Rattle.posting.proofs.page.post_at.Goals as goal

pub returns : goal.returns
returns g c =
    let page = c.args.page.now in
    let room : c.args.at ≤ length page = omega arith in
    let out = take (length page - c.args.at) (drop c.args.at page) in
    let w = granted (buffer_limits (length out)) c.post.result (λ n. Written g.B.Bank g.C.Storage g.C.Tapped c.args.basin.now c.args.bytes.now out n c.post.new.out c.post.new.basin) ((c.post.new.basin ≡ c.args.basin.now) × (c.post.new.out ≡ out)) c.unwrap.result c.post.ensures c.unwrap.ensures in
    record {
      told = w.told;
      posts = w.posts;
      size = w.printed.size;
      fits = w.printed.fits;
      front = written_front page c.post.new.out (text w.told) c.args.at c.unwrap.result room w.printed.size w.printed.bytes;
      rest = written_rest page c.post.new.out (text w.told) c.args.at c.unwrap.result room w.printed.size w.printed.bytes;
    }
