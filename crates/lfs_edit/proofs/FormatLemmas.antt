-- A root block filled up with erased bytes is a new image.
use Rattle.std.proofs.Common.{◌≡◌, ℕ, ◌-◌, ◌*◌, ◌≤◌, List, [], ◌∷◌, ◌++◌, length, take, drop, refl, ap, sym, ◌∙◌, arith, subst}
use Rattle.std.proofs.Common.{length-append, Some}
use Rattle.std.specs.Prelude.{replicate}
use Rattle.std.proofs.Math.Nat.{mul-le-mul_left}
use Rattle.std.proofs.Math.Seq.{take-append_seam, drop-append_seam}
use Rattle.std.proofs.lemmas.List.{take-replicate, length-replicate}
use Rattle.lfs_block.specs.Bytes.{IsBytes}
use Rattle.lfs_block.specs.Geometry.{IsGeometry}
use Rattle.lfs_block.specs.Disk.{Disk, IsDisk, block_of}
use Rattle.lfs_block.proofs.PutLemmas.{IsBytes-append}
use Rattle.lfs_meta.specs.declared.tail.Tail.TheVariants.{End}
use Rattle.lfs_meta.specs.Entry.{StoredEntry}
use Rattle.lfs_meta.specs.Part.{StoredPart}
use Rattle.lfs_meta.specs.LiveBlock.{stored_part_of}
use Rattle.lfs_pair.specs.Spelling.{part_tags}
use Rattle.lfs_pair.specs.Writing.{log_written, part_in, stored_part}
use Rattle.lfs_file.proofs.LaidByteLemmas.{IsBytes-fill}
use Rattle.lfs_fs.specs.declared.limits.Limits.{Limits}
use Rattle.lfs_fs.specs.Formatted.{empty_volume}
use Rattle.lfs_fs.specs.LoneSuperblock.{LoneSuperblockMounts, IsLoneSuperblock, mounted_root}
use Rattle.lfs_fs.specs.Mounted.{IsMountOf}
use Rattle.lfs_fs.specs.Pair.{root}
use Rattle.lfs_fs.specs.Stored.{SaysVolume}
use Rattle.lfs_fs.specs.Superblock.{IsLimits}
use Rattle.lfs_law.specs.CutWritten.{MadeBytesSay}
use Rattle.lfs_law.specs.SuperblockBytes.{superblock_bytes, volume_bytes}
use Rattle.lfs_edit.specs.Formatted.{disk_with, new_superblock, root_block, IsFormatted}

-- what the root's first pair holds
abbrev root_part : ℕ → ℕ → Limits → StoredPart
root_part size count limits = stored_part (new_superblock size count limits ∷ []) End (replicate 12 0)

-- the superblock says the new volume
says : (size count : ℕ) (limits : Limits) → MadeBytesSay → IsGeometry size count → IsLimits limits
    → SaysVolume (empty_volume size count limits []) (superblock_bytes size count limits)
unfolding volume_bytes
says size count limits said geometry fit =
    said (empty_volume size count limits []) (omega (arith, geometry.size_fits.1)) (omega (arith, geometry.count_fits.1)) fit

-- the root block, and erased ones behind it
complete : (size count : ℕ) (limits : Limits) (first : List ℕ) → LoneSuperblockMounts → MadeBytesSay → IsGeometry size count → IsLimits limits
    → length first ≡ size → IsBytes first → first ≡ root_block size count limits
    → part_in first (replicate size 0xff) ≡ Some (root_part size count limits)
    → IsFormatted size count limits (first ++ replicate (size * count - size) 0xff)
complete size count limits first lone said geometry fit len bytes is part =
    let rest : List ℕ = replicate (size * count - size) 0xff in
    let disk : Disk = disk_with size count (first ++ rest) in
    let words : List ℕ = superblock_bytes size count limits in
    let say = says size count limits said geometry fit in
    let two : size * 2 ≤ size * count = mul-le-mul_left size geometry.count_fits.0 in
    let rest_len : length rest ≡ size * count - size = length-replicate (size * count - size) 255 in
    let all_len : length (first ++ rest) ≡ count * size = omega (arith, length-append first rest, rest_len, len, two) in
    let is_disk : IsDisk disk = record {
      geometry = geometry;
      len = all_len;
      bytes = IsBytes-append first rest bytes (IsBytes-fill (size * count - size));
    } in
    let no_blocks : 0 * size ≡ 0 = omega arith in
    let one_block : 1 * size ≡ length first = omega (arith, len) in
    let zero_is : block_of disk 0 ≡ first =
    ap (λ (k : ℕ). take size (drop k (first ++ rest))) no_blocks ∙ ap (λ (k : ℕ). take k (first ++ rest)) (sym len)
    ∙ take-append_seam first rest in
    let one_is : block_of disk 1 ≡ replicate size 0xff =
    ap (λ (k : ℕ). take size (drop k (first ++ rest))) one_block ∙ ap (take size) (drop-append_seam first rest)
    ∙ take-replicate size (size * count - size) 255 (omega (arith, two)) in
    let held : stored_part_of disk root ≡ Some (root_part size count limits) =
    ap (λ (b : List ℕ). part_in b (block_of disk 1)) zero_is ∙ ap (part_in first) one_is ∙ part in
    let alone : IsLoneSuperblock (root_part size count limits) words [] = record { is = refl; len = refl; tail = refl; delta = refl } in
    record {
      content = ap (λ (b : List ℕ). b ++ rest) is;
      disk = is_disk;
      mount = subst (λ (l : Limits). IsMountOf disk (mounted_root (empty_volume size count l []))) (sym say.limits)
          (lone disk (root_part size count limits) words [] is_disk held alone say.header tt);
    }

-- the same, as it is made
pub formatted : (size count : ℕ) (limits : Limits) (first bytes : List ℕ) (entry : StoredEntry) → LoneSuperblockMounts → MadeBytesSay
    → IsGeometry size count → IsLimits limits → length first ≡ size → IsBytes first
    → bytes ≡ first ++ replicate (size * count - length first) 0xff
    → first ≡ log_written 1 (part_tags (stored_part (entry ∷ []) End (replicate 12 0))) (replicate size 0xff)
    → part_in first (replicate size 0xff) ≡ Some (stored_part (entry ∷ []) End (replicate 12 0)) → entry ≡ new_superblock size count limits
    → IsFormatted size count limits bytes
formatted size count limits first bytes entry lone said geometry fit len first_bytes is block part entry_is =
    subst (IsFormatted size count limits) (sym (is ∙ ap (λ (k : ℕ). first ++ replicate (size * count - k) 0xff) len))
    (complete size count limits first lone said geometry fit len first_bytes
    (block ∙ ap (λ (e : StoredEntry). log_written 1 (part_tags (stored_part (e ∷ []) End (replicate 12 0))) (replicate size 0xff)) entry_is)
    (part ∙ ap (λ (e : StoredEntry). Some (stored_part (e ∷ []) End (replicate 12 0))) entry_is))
