-- The parts along a thread, read one after another.
use Rattle.std.proofs.Common.{◌≡◌, Bool, List, [], ◌∷◌, ◌++◌, Option, Some, None, ap, sym, ◌∙◌, subst}
use Rattle.std.specs.List.{AllByRecursion}
use Rattle.lfs_meta.specs.Body.{Pair}
use Rattle.lfs_meta.specs.Complete.{IsComplete}
use Rattle.lfs_fs.specs.Gathering.{PairPart}
use Rattle.lfs_fs.specs.Reading.{Reading}
use Rattle.lfs_fs.specs.Thread.{next}
use Rattle.lfs_fs.specs.Used.{AddsBlocks}
use Rattle.lfs_settle.specs.InStep.{thread_pairs}
use Rattle.lfs_settle.specs.Walked.{AreWalked}
use Rattle.lfs_settle.proofs.Walk.{walked_more, walked_unread}

-- a pair more
pub walk_goes_on : (r : Reading) (used new : List Bool) (before more : List Pair) (parts now : List PairPart) (pair : Pair)
    (part : PairPart) (follows : Option Pair) → AreWalked r used before parts (Some pair) → AddsBlocks used new (pair.0 ∷ pair.1 ∷ [])
    → part.0 ≡ pair → r.part pair ≡ Some part.1 → AllByRecursion IsComplete part.1.entries → more ≡ before ++ pair ∷ []
    → now ≡ parts ++ part ∷ [] → follows ≡ next part.1.tail → AreWalked r new more now follows
walk_goes_on r used new before more parts now pair part follows walked adds at read complete pushed pushed_too next_is =
    let one : (pair, part.1) ≡ part = ap (λ (p : Pair). (p, part.1)) (sym at) in
    let all : parts ++ (pair, part.1) ∷ [] ≡ now = ap (λ (p : PairPart). parts ++ p ∷ []) one ∙ sym pushed_too in
    subst (λ (ps : List Pair). AreWalked r new ps now follows) (sym pushed)
    (subst (λ (ps : List PairPart). AreWalked r new (before ++ pair ∷ []) ps follows) all
    (subst (λ (o : Option Pair). AreWalked r new (before ++ pair ∷ []) (parts ++ (pair, part.1) ∷ []) o) (sym next_is)
    (walked_more r used before parts pair new part.1 walked adds read complete)))

-- a pair that isn't read is the last one
pub pairs_unread : (r : Reading) (used new : List Bool) (before now : List Pair) (parts : List PairPart) (pair : Pair)
    → AreWalked r used before parts (Some pair) → AddsBlocks used new (pair.0 ∷ pair.1 ∷ []) → r.part pair ≡ None
    → now ≡ before ++ pair ∷ [] → now ≡ thread_pairs r
pairs_unread r used new before now parts pair walked adds read pushed =
    pushed ∙ (walked_unread r used before parts pair new walked adds read).pairs_are
