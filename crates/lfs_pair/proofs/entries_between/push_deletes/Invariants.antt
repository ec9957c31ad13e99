use Rattle.std.proofs.Common.{◌≡◌, ◌+◌, ◌≤◌, ◌++◌, length, map, drop}
use Rattle.lfs_tag.specs.Writing.{items}
use Rattle.lfs_pair.specs.Difference.{deletes, olds}
use Rattle.lfs_pair.specs.DifferenceSeen.{fate_seen}
use Rattle.lfs_pair.proofs.entries_between.push_deletes.Given as goal

abbrev pub invariant-loop-fate : goal.invariant-loop-fate
invariant-loop-fate l = record {
  pushed : items l.edits.items ++ deletes l.id (map fate_seen (drop l.fate-index l.aligned))
      ≡ items l.initial.edits.items ++ deletes 0 (map fate_seen l.aligned);
  few : l.id + length (olds (map fate_seen (drop l.fate-index l.aligned))) ≤ 1023;
}
