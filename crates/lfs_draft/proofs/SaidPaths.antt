-- The path that a command says is the one that it is about.
use Rattle.std.proofs.Common.{◌≡◌, ◌∙◌, ℕ, Option, Some, None, [], map, ap, refl, sym, Bor}
use Rattle.std.specs.Global.{Vec}
use Rattle.std.specs.Option.{option_map}
use Rattle.std.proofs.lemmas.Option.{none-some}
use Rattle.lfs_meta.specs.Name.{Name}
use Rattle.lfs_fs.specs.Path.{Path}
use Rattle.lfs_command.specs.declared.command.Command.TheVariants as case
use Rattle.lfs_command.specs.AskedFor.{OnNames, named_command, path_said}
use Rattle.lfs_command.specs.Leading.{path_of}

-- the names of a path, the root's where there is none
names_said : Option (Vec (Bor Name)) → Path
names_said None = []
names_said (Some path) = map (λ (n : Bor Name). n.now) path.items

path_is_said : (command : OnNames) → names_said (path_said command) ≡ path_of (named_command command)
unfolding names_said
path_is_said (case.Mkdir path) = refl
path_is_said (case.Put path bytes most) = refl
path_is_said (case.Rm path) = refl
path_is_said (case.Mv from to) = refl
path_is_said (case.SetAttr path kind value) = refl
path_is_said (case.RmAttr path kind) = refl
path_is_said (case.Grow count) = refl

-- where one is said, by what was answered for it
pub some_path : (command : OnNames) (found : Option (Bor (Vec (Bor Name)))) (path : Bor (Vec (Bor Name)))
    → option_map (λ (p : Bor (Vec (Bor Name))). p.now) found ≡ path_said command → found ≡ Some path
    → map (λ (n : Bor Name). n.now) path.now.items ≡ path_of (named_command command)
unfolding names_said
some_path command found path said is =
    ap names_said (ap (option_map (λ (p : Bor (Vec (Bor Name))). p.now)) (sym is) ∙ said) ∙ path_is_said command

-- where none is, the image is lengthened
only_growing : (command : OnNames) → path_said command ≡ None → ((count : ℕ) → command ≡ case.Grow count → ⊥) → ⊥
only_growing (case.Mkdir path) none grow = none-some path (sym none)
only_growing (case.Put path bytes most) none grow = none-some path (sym none)
only_growing (case.Rm path) none grow = none-some path (sym none)
only_growing (case.Mv from to) none grow = none-some from (sym none)
only_growing (case.SetAttr path kind value) none grow = none-some path (sym none)
only_growing (case.RmAttr path kind) none grow = none-some path (sym none)
only_growing (case.Grow count) none grow = grow count refl

pub no_path_grows : (command : OnNames) (found : Option (Bor (Vec (Bor Name))))
    → option_map (λ (p : Bor (Vec (Bor Name))). p.now) found ≡ path_said command → found ≡ None
    → ((count : ℕ) → command ≡ case.Grow count → ⊥) → ⊥
no_path_grows command found said is grow =
    only_growing command (sym said ∙ ap (option_map (λ (p : Bor (Vec (Bor Name))). p.now)) is) grow
