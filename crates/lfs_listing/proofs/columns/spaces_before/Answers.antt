use Rattle.std.proofs.Common.{ℕ, length, drop, replicate, ap, ◌∙◌}
use Rattle.lfs_listing.proofs.ColumnLemmas.{spaces_left}
use Rattle.lfs_listing.proofs.columns.spaces_before.Goals as goal

pub returns : goal.returns
returns c = c.split_at.ensures.back ∙ ap (λ (n : ℕ). drop {A = ℕ} n (replicate 10 32)) c.min-filled.ensures ∙ spaces_left (length c.args.word.now)
