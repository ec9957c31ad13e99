-- What a `FileBody` means.
use Rattle.lfs_salvage.specs.Fate.{FileFate, In_entry, In_chain, Elsewhere, Passed, Lost}
use Rattle.lfs_salvage.specs.declared.file_body.FileBody.{FileBody}
use Rattle.lfs_salvage.specs.declared.file_body.FileBody.TheVariants as case

abbrev pub fate_held : FileBody → FileFate
fate_held case.Inline = In_entry
fate_held (case.Chain head blocks size) = In_chain head blocks.items size
fate_held (case.Elsewhere parent) = Elsewhere parent
fate_held case.Passed = Passed
fate_held (case.Lost fault) = Lost fault
