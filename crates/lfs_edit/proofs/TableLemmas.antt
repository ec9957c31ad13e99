-- The table of used blocks is that of what a command leaves.
use Rattle.std.proofs.Common.{◌≡◌, ℕ, Bool, List, ap, sym, ◌∙◌, subst}
use Rattle.lfs_block.specs.Disk.{Disk}
use Rattle.lfs_fs.specs.Mounted.{IsOutlineOf}
use Rattle.lfs_fs.specs.Outlined.{outlined}
use Rattle.lfs_fs.specs.Sound.{IsSound}
use Rattle.lfs_fs.specs.SoundOutlines.{OutlinesAreSound}
use Rattle.lfs_fs.specs.Table.{IsTableOf}
use Rattle.lfs_fs.specs.Uses.{uses}
use Rattle.lfs_fs.specs.Volume.{Volume}
use Rattle.lfs_fs.proofs.OutlinedLemmas.{outlined_uses}
use Rattle.lfs_command.specs.Command.{Command}
use Rattle.lfs_command.specs.Growth.{count_after, grown}
use Rattle.lfs_edit.specs.Carried.{IsCarriedOnOutline}
use Rattle.lfs_law.specs.TablesFollow.{LeadsToTable, TablesFollow}

-- the outline of an image is sound
pub outline_sound : OutlinesAreSound → (d : Disk) (o : Volume) → IsOutlineOf d o → IsSound o
outline_sound sound d o is = subst IsSound (sym is.outline) (sound is.volume is.sound)

-- the table of a volume is that of its outline
outlined_table : (v : Volume) (used : List Bool) → IsTableOf v used → IsTableOf (outlined v) used
outlined_table v used table = record { len = table.len; marks = λ b. table.marks b ∙ sym (outlined_uses b v) }

pub table_behind : TablesFollow → (v : Volume) (c : Command) (o new : Volume) (used : List Bool) (blocks gone : List ℕ) → o ≡ outlined v
    → IsTableOf (grown c o) used → IsCarriedOnOutline v c blocks gone new → LeadsToTable used blocks gone new
table_behind follow v c o new used blocks gone is table done = record {
  free = leads.free;
  marked = leads.marked;
  table = λ more last adds gives. subst (λ (x : Volume). IsTableOf x last) (sym done.leaves)
      (outlined_table done.after last (leads.table more last adds gives));
}
  where
    table_of_volume : IsTableOf (grown c v) used
    table_of_volume = record {
      len = table.len ∙ ap (λ (x : Volume). count_after c x.count) is;
      marks = λ b. table.marks b ∙ ap (uses b) is ∙ outlined_uses b v;
    }

    leads : LeadsToTable used blocks gone done.after
    leads = follow c v done.after done.carried used table_of_volume blocks gone done.taken done.gone
