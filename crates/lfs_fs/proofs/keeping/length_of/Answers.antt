-- The size is the one that the body says.
use Rattle.std.proofs.Common.{◌≡◌, length, ap, sym, ◌∙◌, arith}
use Rattle.lfs_meta.specs.BodyHeld.{body_held}
use Rattle.lfs_meta.specs.declared.body.Body.{Body}
use Rattle.lfs_fs.specs.Gathering.{stored_length}
use Rattle.lfs_fs.proofs.keeping.length_of.Goals as goal

pub returns-in-Inline : goal.returns-in-Inline
returns-in-Inline c =
    let len : c.len.result ≡ length c.in-Inline.bytes.items = omega arith in
    len ∙ ap (λ (b : Body). stored_length (body_held b)) (sym c.in-Inline.is)

pub returns-in-Chain : goal.returns-in-Chain
returns-in-Chain c = ap (λ (b : Body). stored_length (body_held b)) (sym c.in-Chain.is)

pub returns-in-Directory : goal.returns-in-Directory
returns-in-Directory c = ap (λ (b : Body). stored_length (body_held b)) (sym c.in-Directory.is)
