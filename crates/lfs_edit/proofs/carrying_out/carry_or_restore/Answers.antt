-- A command that is refused for want of room leaves an outline that is read again, which is the one that was.
use Rattle.std.proofs.Common.{inr}
use Rattle.lfs_command.specs.AskedFor.{named_command}
use Rattle.lfs_edit.proofs.JudgedLemmas.{may_be_refused}
use Rattle.lfs_edit.proofs.TableLemmas.{outline_sound}
use Rattle.lfs_edit.proofs.carrying_out.carry_or_restore.Goals as goal

pub used_blocks-requires : goal.used_blocks-requires
used_blocks-requires c =
    outline_sound c.outlines_are_sound.ensures c.args.image.now.disk c.in_ok-outline-in-Err.field-0 c.in_ok-outline-in-Err.ensures.read

pub returns-in_ok-used-in-Err : goal.returns-in_ok-used-in-Err
returns-in_ok-used-in-Err c = record {
  finished = tt;
  refused = may_be_refused c.args.image.now.disk (named_command c.args.command.now) c.in-Err.refusal c.in-Err.ensures.refused;
  unchanged = inr (c.in_ok-outline-in-Err.ensures.only c.args.outline.now c.requires.judged.outline);
  table = tt;
  counted = inr c.in_ok-used-in-Err.ensures.table;
}
