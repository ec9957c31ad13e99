use Rattle.std.proofs.Common.{ℕ, List, length, ◌≤◌, ap, subst, ◌≡◌, ◌∙◌, rules}
use Rattle.std.specs.Prelude.{All}
use Rattle.lfs_meta.specs.Attribute.{Attributes}
use Rattle.lfs_meta.specs.Entry.{StoredEntry}
use Rattle.lfs_meta.specs.Fits.{RiseFrom}
use Rattle.lfs_fs.proofs.SuperblockLemmas.{are_attributes}
use Rattle.lfs_fs.proofs.superblock.judged.Goals as goal

pub returns-clause-judged : goal.returns-clause-judged
returns-clause-judged c =
    let entry = c.args.entry.now in
    let same : c.deref.result.now ≡ entry.attributes = c.deref.ensures.value ∙ ap (λ (e : StoredEntry). e.attributes) c.entry.view_is in
    let within = subst (λ (as' : Attributes). All (λ (a : ℕ × List ℕ). length a.1 ≤ c.in_ok-limits.limits.attribute) as')
    same c.if-not-are_within.ensures in
    let rise = subst (λ (e : StoredEntry). RiseFrom 0 e.attributes) c.entry.view_is c.entry.invariant.attributes in
    record {
      bytes = c.in_ok-bytes.bytes.now;
      is = search rules;
      header = c.in_ok-limits.ensures.good;
      limits_are = c.in_ok-limits.ensures.limits;
      fit = are_attributes c.in_ok-limits.limits.attribute 0 entry.attributes rise within;
    }
