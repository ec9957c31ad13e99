-- The image is read of a copy of the file's bytes.
use Rattle.std.proofs.Common.{◌≡◌, ◌++◌, ◌∙◌, ℕ, List, IfOk, ap, drop, subst, take, true}
use Rattle.lfs_settle.specs.ReadAs.{IsReadAs}
use Rattle.lfs_find.specs.Found.{extent}
use Rattle.lfs_find.proofs.judging.read_at.Goals as goal

pub returns : goal.returns
returns c =
    let copied : c.extend_from_slice.new.self.items ≡ take (extent c.args.place) (drop c.args.place.at c.args.bytes.now) =
    c.in_ok-extend_from_slice.ensures.items ∙ ap (λ (l : List ℕ). l ++ c.split_at-2.result.0.now) c.new-image.ensures.items
    ∙ c.split_at-2.ensures.front ∙ ap (take (extent c.args.place)) c.split_at.ensures.back in
    subst (λ (held : List ℕ). IfOk c.read_as.result (λ image. IsReadAs true c.args.place.size held image.items)) copied c.read_as.ensures.read
