-- What is ended if an image can be settled, and if it can't.
use Rattle.std.proofs.Common.{◌≡◌, Bool, true, false, [], None, ap, sym, ◌∙◌}
use Rattle.std.specs.Prelude.{if◌then◌else◌}
use Rattle.lfs_fs.specs.Reading.{Reading}
use Rattle.lfs_settle.specs.declared.ended.Ended.{Ended}
use Rattle.lfs_settle.specs.Ended.{Ends, dropped_of, moved_of, steps_of}
use Rattle.lfs_settle.specs.InStep.{in_step, thread_parts}
use Rattle.lfs_settle.specs.Settled.{can_settle}

module _ (r : Reading) (ended : Ended) where
  pub ends_so : can_settle r (in_step r) ≡ true → ended.moved ≡ moved_of (thread_parts (in_step r))
      → ended.dropped.items ≡ dropped_of (thread_parts (in_step r)) → ended.steps.items ≡ steps_of r → Ends r ended
  ends_so can moved dropped steps = record {
    moved = moved ∙ ap (λ (b : Bool). if b then moved_of (thread_parts (in_step r)) else None) (sym can);
    dropped = dropped ∙ ap (λ (b : Bool). if b then dropped_of (thread_parts (in_step r)) else []) (sym can);
    steps = steps ∙ ap (λ (b : Bool). if b then steps_of r else []) (sym can);
  }

  pub ends_nothing : can_settle r (in_step r) ≡ false → ended.moved ≡ None → ended.dropped.items ≡ [] → ended.steps.items ≡ []
      → Ends r ended
  ends_nothing can moved dropped steps = record {
    moved = moved ∙ ap (λ (b : Bool). if b then moved_of (thread_parts (in_step r)) else None) (sym can);
    dropped = dropped ∙ ap (λ (b : Bool). if b then dropped_of (thread_parts (in_step r)) else []) (sym can);
    steps = steps ∙ ap (λ (b : Bool). if b then steps_of r else []) (sym can);
  }
