-- The last part is put behind those so far.
use Rattle.std.proofs.Common.{◌≡◌, ◌++◌, ◌∷◌, [], List, ap, ◌∙◌, sym}
use Rattle.std.specs.Prelude.{reverse}
use Rattle.lfs_meta.specs.Body.{Pair}
use Rattle.lfs_fs.specs.Directory.{Part}
use Rattle.lfs_fs.specs.Thread.{Link, hard_to, links_of}
use Rattle.lfs_fs.proofs.KnownLemmas.{last_part}
use Rattle.lfs_fs.proofs.known_thread.push_directory.Goals as goal

pub each-preserved : goal.each-preserved
each-preserved c =
    let first = c.args.directory.first in
    let part = c.in-Some.part in
    let more : c.each.more.items ≡ c.pop.new.self.items ++ part ∷ [] = c.in-Some.ensures.items in
    let step = last_part c.each.parts.items first c.pop.new.self.items part c.each.tail in
    ap (λ (ks : List Link). ks ++ reverse (links_of first c.pop.new.self.items (hard_to c.pair-one.result))) c.in_ok-push.ensures.pushed
    ∙ ap (λ (p : Pair). (c.each.parts.items ++ record { part = part; tail = c.each.tail } ∷ [])
    ++ reverse (links_of first c.pop.new.self.items (hard_to p))) c.pair-one.ensures
    ∙ step
    ∙ ap (λ (ps : List Part). c.each.parts.items ++ reverse (links_of first ps c.each.tail)) (sym more)
    ∙ c.each.invariant
