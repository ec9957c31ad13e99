-- Where memory is refused, the image stays.
use Rattle.std.proofs.Common.{◌≡◌, ℕ, List, ap, ◌∙◌, arith}
use Rattle.lfs_block.specs.Medium.{Medium}
use Rattle.lfs_block.proofs.image.Image.reserve.Goals as goal

pub returns-then-is_err : goal.returns-then-is_err
returns-then-is_err c =
    let here = c.self.inside in
    let same =
    ap (λ (bytes : List ℕ). record { disk = record { size = here.size; count = here.count; bytes = bytes }; room = here.room })
    c.reserve_exact.ensures.items ∙ c.self.view_is in
    let room : here.room ≡ c.args.self.now.room = ap (λ (m : Medium). m.room) c.self.view_is in
    record {
      disk = ap (λ (m : Medium). m.disk) same;
      most = omega (arith, room);
      done_is = λ done. absurd cc;
      refused = λ _. same;
      enough = λ le. absurd (omega (arith, le, room));
    }
