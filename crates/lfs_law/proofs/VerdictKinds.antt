-- A verdict says no more than the refusals that its checks name.
use Rattle.std.proofs.Common.{◌||◌, ◌&&◌, not, nat_lt, Bool, true, false, List, [], ◌∷◌, ◌++◌, Option, Some, None, length, subst}
use Rattle.std.specs.Prelude.{is_none, is_some}
use Rattle.std.specs.List.{AllByRecursion, list_any}
use Rattle.std.specs.Option.{option_and_then}
use Rattle.lfs_block.specs.Disk.{Disk}
use Rattle.lfs_block.specs.Geometry.{is_geometry}
use Rattle.lfs_fs.specs.Entry.{target}
use Rattle.lfs_fs.specs.Free.{free_blocks}
use Rattle.lfs_fs.specs.Path.{Path}
use Rattle.lfs_fs.specs.Tree.{Node, File, Dir, entry_at, tree}
use Rattle.lfs_fs.specs.Volume.{Volume}
use Rattle.lfs_command.specs.declared.refusal.Refusal.{Refusal}
use Rattle.lfs_command.specs.declared.refusal.Refusal.TheVariants.{NotFound, NotADirectory, BadPath, AttrTooLarge, NoAttr, EntryTooLarge}
use Rattle.lfs_command.specs.declared.refusal.Refusal.TheVariants.{Memory, Exists, IsADirectory, NotEmpty, NameTooLong, FileTooLarge}
use Rattle.lfs_command.specs.declared.refusal.Refusal.TheVariants.{IntoItself, IsRoot, NoSpace, BadCount}
use Rattle.lfs_command.specs.Command.{Asked, Command, Mkdir, Put, Rm, Mv, SetAttr, RmAttr, Grow}
use Rattle.lfs_command.specs.Growth.{grown}
use Rattle.lfs_command.specs.Edited.{edited}
use Rattle.lfs_command.specs.Need.{dirty_parts, need}
use Rattle.lfs_command.specs.Planned.{RefusesCommand, RefusesPlan}
use Rattle.lfs_command.specs.Supplies.{nothing}
use Rattle.lfs_command.specs.Verdict.{checks, first_refusal, has_attribute, is_bare, is_directory, is_root, is_too_large, last_length}
use Rattle.lfs_command.specs.Verdict.{lies_below, refuse_if, room_checks, walk_refusal, walk_refusal_at}

-- a refusal of a verdict: neither of the text of a path, nor of memory
unfoldable pub IsOfVerdict : Refusal → Type 0
IsOfVerdict BadPath = ⊥
IsOfVerdict Memory = ⊥
IsOfVerdict r = Unit {0}

-- none, or one of these
abbrev pub MayBeOfVerdict : Option Refusal → Type 0
MayBeOfVerdict None = Unit {0}
MayBeOfVerdict (Some r) = IsOfVerdict r

pub of_test : (t : Bool) (r : Refusal) → IsOfVerdict r → MayBeOfVerdict (refuse_if t r)
of_test true r is = is
of_test false r is = tt

of_walk_at : (here : Option Node) (rest : Option Refusal) → MayBeOfVerdict rest → MayBeOfVerdict (walk_refusal_at here rest)
unfolding IsOfVerdict
of_walk_at None rest later = tt
of_walk_at (Some (File bytes a)) rest later = tt
of_walk_at (Some (Dir a)) rest later = later

pub of_walk : (at : Path → Option Node) (front path : Path) → MayBeOfVerdict (walk_refusal at front path)
of_walk at front [] = tt
of_walk at front (n ∷ ns) = of_walk_at (at front) (walk_refusal at (front ++ n ∷ []) ns) (of_walk at (front ++ n ∷ []) ns)

pub of_first : (rs : List (Option Refusal)) → AllByRecursion MayBeOfVerdict rs → MayBeOfVerdict (first_refusal rs)
of_first [] all = tt
of_first (None ∷ rs) all = of_first rs all.1
of_first (Some r ∷ rs) all = all.0

of_both : (rs qs : List (Option Refusal)) → AllByRecursion MayBeOfVerdict rs → AllByRecursion MayBeOfVerdict qs
    → AllByRecursion MayBeOfVerdict (rs ++ qs)
of_both [] qs these those = those
of_both (r ∷ rs) qs these those = (these.0, of_both rs qs these.1 those)

of_checks : (v : Volume) (c : Command) → AllByRecursion MayBeOfVerdict (checks v c)
unfolding IsOfVerdict
of_checks v (Mkdir p) = (
  of_test (is_root p) IsRoot tt,
  (
    of_walk (tree v) [] p,
    (
      of_test (is_some (tree v p)) Exists tt,
      (of_test (nat_lt v.limits.name (last_length p)) NameTooLong tt, tt),
    ),
  ),
)
of_checks v (Put p bytes most) = (
  of_test (is_root p) IsRoot tt,
  (
    of_walk (tree v) [] p,
    (
      of_test (is_directory (tree v p)) IsADirectory tt,
      (
        of_test (is_none (tree v p) && nat_lt v.limits.name (last_length p)) NameTooLong tt,
        (of_test (nat_lt v.limits.file (length bytes)) FileTooLarge tt, tt),
      ),
    ),
  ),
)
of_checks v (Rm p) = (
  of_test (is_root p) IsRoot tt,
  (
    of_walk (tree v) [] p,
    (
      of_test (is_none (tree v p)) NotFound tt,
      (of_test (not (is_bare v (option_and_then target (entry_at v p)))) NotEmpty tt, tt),
    ),
  ),
)
of_checks v (Mv p q) = (
  of_test (is_root p || is_root q) IsRoot tt,
  (
    of_walk (tree v) [] p,
    (
      of_test (is_none (tree v p)) NotFound tt,
      (
        of_test (lies_below p q) IntoItself tt,
        (
          of_walk (tree v) [] q,
          (
            of_test (is_some (tree v q)) Exists tt,
            (
              of_test (nat_lt v.limits.name (last_length q)) NameTooLong tt,
              tt,
            ),
          ),
        ),
      ),
    ),
  ),
)
of_checks v (SetAttr p k value) = (
  of_walk (tree v) [] p,
  (
    of_test (is_none (tree v p)) NotFound tt,
    (
      of_test (nat_lt v.limits.attribute (length value)) AttrTooLarge tt,
      tt,
    ),
  ),
)
of_checks v (RmAttr p k) =
    (of_walk (tree v) [] p, (of_test (is_none (tree v p)) NotFound tt, (of_test (not (has_attribute k (tree v p))) NoAttr tt, tt)))
of_checks v (Grow n) = (of_test (not (nat_lt v.count n && is_geometry v.size n)) BadCount tt, tt)

of_room : (v : Volume) (c : Command) → AllByRecursion MayBeOfVerdict (room_checks v c)
unfolding IsOfVerdict
of_room v c = (
  of_test (list_any (is_too_large (edited v c nothing)) (dirty_parts (edited v c nothing))) EntryTooLarge tt,
  (of_test (nat_lt (length (free_blocks (grown c v))) (need v c)) (NoSpace (need v c) (length (free_blocks (grown c v)))) tt, tt),
)

refuses_by : (d : Disk) (asked : Asked) (r : Refusal) → IsOfVerdict r → RefusesCommand d asked r → RefusesPlan d asked r
unfolding IsOfVerdict
refuses_by d asked BadPath of refused = absurd of
refuses_by d asked Memory of refused = absurd of
refuses_by d asked NotFound of refused = refused
refuses_by d asked Exists of refused = refused
refuses_by d asked NotADirectory of refused = refused
refuses_by d asked IsADirectory of refused = refused
refuses_by d asked NotEmpty of refused = refused
refuses_by d asked NameTooLong of refused = refused
refuses_by d asked FileTooLarge of refused = refused
refuses_by d asked AttrTooLarge of refused = refused
refuses_by d asked NoAttr of refused = refused
refuses_by d asked IntoItself of refused = refused
refuses_by d asked IsRoot of refused = refused
refuses_by d asked EntryTooLarge of refused = refused
refuses_by d asked (NoSpace needed free) of refused = refused
refuses_by d asked BadCount of refused = refused

-- so a command that is refused isn't planned
pub refuses : (d : Disk) (asked : Asked) (r : Refusal) → RefusesCommand d asked r → RefusesPlan d asked r
refuses d asked r refused =
    let v = refused.volume in
    let c = refused.command in
    refuses_by d asked r
    (subst MayBeOfVerdict refused.refused (of_first (checks v c ++ room_checks v c)
    (of_both (checks v c) (room_checks v c) (of_checks v c) (of_room v c)))) refused
