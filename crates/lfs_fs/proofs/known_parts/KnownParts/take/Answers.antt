-- What is left begins what was.
use Rattle.std.proofs.Common.{◌+◌, sym, ◌∙◌}
use Rattle.lfs_fs.proofs.KnownLemmas.{taken_off}
use Rattle.lfs_fs.proofs.known_parts.KnownParts.take.Goals as goal

pub returns-then-part_is_left-clause-rest : goal.returns-then-part_is_left-clause-rest
returns-then-part_is_left-clause-rest c =
    (taken_off c.args.self.now.parts.items c.pop.new.self.items (c.in_ok-at.at + 1) c.in_ok-known.known
    (sym c.truncate.ensures.items ∙ c.in_ok-known.ensures.items)).1

pub returns-else-stands_at-clause-rest : goal.returns-else-stands_at-clause-rest
returns-else-stands_at-clause-rest c =
    (taken_off c.args.self.now.parts.items c.pop.new.self.items (c.in_ok-at.at + 1) c.in_ok-known.known
    (sym c.truncate.ensures.items ∙ c.in_ok-known.ensures.items)).1
