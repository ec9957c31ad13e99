use Rattle.std.proofs.Common.{sym, subst}
use Rattle.std.specs.List.{AllByRecursion}
use Rattle.lfs_tag.specs.Commit.{IsItem}
use Rattle.lfs_tag.proofs.Items.{tags_at-items}
use Rattle.lfs_tag.proofs.log.Log.tags.Goals as goal

pub returns-clause-valid : goal.returns-clause-valid
returns-clause-valid c = subst (AllByRecursion IsItem) (sym c.new.ensures) (tags_at-items 0xffffffff c.self.inside.committed.now)
