use Rattle.std.proofs.Common.{sym}
use Rattle.lfs_json.proofs.AddingLemmas.{text_member, digits_member}
use Rattle.lfs_json.proofs.members.add_bytes.Goals as goal

pub returns-in-Ok : goal.returns-in-Ok
returns-in-Ok c = rw (text_member c.args.name.now c.args.digits_name.now c.args.bytes.now c.in-Ok.ensures.cases.1) (rw (sym c.in-Ok.ensures.cases.0) c.add_text.ensures)

pub returns-in-Err : goal.returns-in-Err
returns-in-Err c = rw (digits_member c.args.name.now c.args.digits_name.now c.args.bytes.now c.in-Err.ensures.cases.0) c.add_digits.ensures
