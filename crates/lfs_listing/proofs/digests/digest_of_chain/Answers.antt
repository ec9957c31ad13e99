-- One slice more is hashed.
use Rattle.std.proofs.Common.{◌≡◌, ◌∙◌, [], ◌∷◌, ◌++◌, List, ℕ, ap, sym, append_assoc, append-nil}
use Rattle.std.specs.List.{concat}
use Rattle.sha2.specs.Sha256.{sha256}
use Rattle.lfs_listing.proofs.digests.digest_of_chain.Goals as goal

pub loop-slice-preserved : goal.loop-slice-preserved
loop-slice-preserved g c =
    let way = c.loop-slice.invariant in
    let slice = c.in-Some.slice.now in (
      way.0 ++ slice,
      append_assoc way.0 slice (concat c.next.new.self) ∙ ap (λ (l : List (List ℕ)). way.0 ++ concat l) (sym c.in-Some.ensures.steps) ∙ way.1,
      c.update.ensures way.0 way.2,
    )

pub returns : goal.returns
returns g c =
    let way = c.loop-slice.invariant in
    let all = sym (append-nil way.0) ∙ ap (λ (l : List (List ℕ)). way.0 ++ concat l) (sym c.in-None.ensures.steps.0) ∙ way.1 in
    c.finalize.ensures way.0 way.2 ∙ ap sha256 all
