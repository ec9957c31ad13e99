-- What each command asks for is what the command that is given asks for.
use Rattle.std.proofs.Common.{map, ap, sym, subst, ◌∙◌, Bor}
use Rattle.lfs_meta.specs.Name.{Name}
use Rattle.lfs_fs.specs.Path.{Path}
use Rattle.lfs_command.specs.AskedFor.{named_command}
use Rattle.lfs_command.specs.Command.{Command, Mkdir, Put, Rm, RmAttr, SetAttr}
use Rattle.lfs_draft.specs.Editable.{IsEditable}
use Rattle.lfs_draft.proofs.editing.edit.Goals as goal

pub mkdir-requires : goal.mkdir-requires
mkdir-requires c =
    let with : Path → Command = λ p. Mkdir p in
    subst (IsEditable c.args.outline.now)
    (ap named_command c.in-Mkdir.is ∙ ap with (ap (map (λ (n : Bor Name). n.now)) (sym c.deref.ensures.value)))
    c.requires

pub put-requires : goal.put-requires
put-requires c =
    let with : Path → Command = λ p. Put p c.in-Put.bytes.now c.in-Put.most in
    subst (IsEditable c.args.outline.now)
    (ap named_command c.in-Put.is ∙ ap with (ap (map (λ (n : Bor Name). n.now)) (sym c.deref-in-Put.ensures.value)))
    c.requires

pub rm-requires : goal.rm-requires
rm-requires c =
    let with : Path → Command = λ p. Rm p in
    subst (IsEditable c.args.outline.now)
    (ap named_command c.in-Rm.is ∙ ap with (ap (map (λ (n : Bor Name). n.now)) (sym c.deref-in-Rm.ensures.value)))
    c.requires

pub set_attr-requires : goal.set_attr-requires
set_attr-requires c =
    let with : Path → Command = λ p. SetAttr p c.in-SetAttr.kind c.in-SetAttr.value.now in
    subst (IsEditable c.args.outline.now)
    (ap named_command c.in-SetAttr.is ∙ ap with (ap (map (λ (n : Bor Name). n.now)) (sym c.deref-in-SetAttr.ensures.value)))
    c.requires

pub rm_attr-requires : goal.rm_attr-requires
rm_attr-requires c =
    let with : Path → Command = λ p. RmAttr p c.in-RmAttr.kind in
    subst (IsEditable c.args.outline.now)
    (ap named_command c.in-RmAttr.is ∙ ap with (ap (map (λ (n : Bor Name). n.now)) (sym c.deref-in-RmAttr.ensures.value)))
    c.requires
