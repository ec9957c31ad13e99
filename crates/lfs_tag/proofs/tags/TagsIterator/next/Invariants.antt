-- What is left decides what the whole gives.
use Rattle.std.proofs.Common.{◌≡◌, length}
use Rattle.lfs_tag.specs.Reading.{tags_at}
use Rattle.lfs_tag.proofs.tags.TagsIterator.next.Given as goal

abbrev pub invariant-loop-found : goal.invariant-loop-found
invariant-loop-found l = tags_at l.self-inside.prev l.self-inside.bytes.now ≡ l.fn.self

abbrev pub decreases-loop-found : goal.decreases-loop-found
decreases-loop-found l = length l.self-inside.bytes.now
