-- Commands that free nothing.
use Rattle.std.proofs.Common.{◌≡◌, ℕ, List, refl, arith, Bor}
use Rattle.std.specs.Global.{Vec}
use Rattle.lfs_meta.specs.Name.{Name}
use Rattle.lfs_fs.specs.Volume.{Volume}
use Rattle.lfs_command.specs.AskedFor.{OnNames, named_command}
use Rattle.lfs_command.specs.Freed.{freed_uses}
use Rattle.lfs_command.specs.declared.command.Command.TheVariants as case
use Rattle.lfs_draft.proofs.freeing.list_freed.Goals as goal

none_freed : (o : Volume) (command : OnNames) (b : ℕ)
    → ((path : Vec (Bor Name)) (bytes : Bor (List ℕ)) (most : ℕ) → command ≡ case.Put path bytes most → ⊥)
    → ((path : Vec (Bor Name)) → command ≡ case.Rm path → ⊥)
    → ((from to : Vec (Bor Name)) → command ≡ case.Mv from to → ⊥) → freed_uses o (named_command command) b ≡ 0
none_freed o (case.Mkdir path) b put rm mv = refl
none_freed o (case.Put path bytes most) b put rm mv = absurd (put path bytes most refl)
none_freed o (case.Rm path) b put rm mv = absurd (rm path refl)
none_freed o (case.Mv from to) b put rm mv = absurd (mv from to refl)
none_freed o (case.SetAttr path kind value) b put rm mv = refl
none_freed o (case.RmAttr path kind) b put rm mv = refl
none_freed o (case.Grow count) b put rm mv = refl

pub returns-in_default : goal.returns-in_default
returns-in_default c = λ b.
    omega (
      arith,
      none_freed c.args.outline.now c.args.command.now b c.in_default.not-Put c.in_default.not-Rm
          c.in_default.not-Mv,
    )
