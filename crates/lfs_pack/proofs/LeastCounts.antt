-- How many blocks an image has at most, and how many of them what rows say uses.
use Rattle.std.proofs.Common.{◌≡◌, ◌+◌, ◌-◌, ◌*◌, ◌/◌, ◌%◌, ◌==◌, ◌≤◌, ℕ, List, [], length, min, refl, ap, sym, ◌∙◌, subst, arith}
use Rattle.std.specs.Prelude.{not}
use Rattle.std.specs.List.{filter, range_with_len}
use Rattle.std.proofs.lemmas.List.Filters.{length-filter_both}
use Rattle.std.proofs.lemmas.List.FromFn.{length-range_with_len}
use Rattle.std.proofs.Math.Nat.{mul-le-mul_right}
use Rattle.std.proofs.lemmas.Nat.{div-add-mod', le-div}
use Rattle.lfs_block.specs.Geometry.{IsBlockSize, IsGeometry}
use Rattle.lfs_fs.specs.declared.limits.Limits.{Limits}
use Rattle.lfs_fs.specs.Formatted.{empty_volume}
use Rattle.lfs_fs.specs.Free.{free_blocks}
use Rattle.lfs_fs.specs.Row.{PathsAreOrdered}
use Rattle.lfs_fs.specs.Unused.{unused}
use Rattle.lfs_fs.specs.Uses.{uses}
use Rattle.lfs_fs.specs.Volume.{Volume}
use Rattle.lfs_fs.proofs.OutlinedLemmas.{outlined_free}
use Rattle.lfs_fs.proofs.UnusedLemmas.{unused_free}
use Rattle.lfs_law.specs.Laws.{UsesAfter}
use Rattle.lfs_law.proofs.CarriedFollow.{CarriedFollow}
use Rattle.lfs_pack.specs.declared.new_image.NewImage.{NewImage}
use Rattle.lfs_pack.specs.FirstBlocks.{UsesFirst}
use Rattle.lfs_pack.specs.Lead.{Lead}
use Rattle.lfs_pack.specs.declared.pack_row.PackRow.{PackRow}
use Rattle.lfs_pack.specs.Least.{IsLeastCount, most_count}
use Rattle.lfs_pack.specs.Packed.{AreRowsOf, Packed, commands}
use Rattle.lfs_pack.specs.RowsCarried.{IsAtWork, PacksRows}
use Rattle.lfs_pack.proofs.CountsKept.{kept, rows_keep}
use Rattle.lfs_pack.proofs.FirstBlocks.{all_first, empty_first, free_range}
use Rattle.lfs_pack.proofs.NoneFreed.{all_on}

-- the blocks that an image's length has room for, and no more than so many
most_fits : (size q r n : ℕ) → IsBlockSize size → q * size + r ≡ 67108864 → 1024 ≤ q → n ≡ min q 65536 → IsGeometry size n
most_fits size q r n fits complete many is =
    let less : n ≤ q = omega (arith, is) in
    let product : n * size ≤ q * size = mul-le-mul_right size less in
    record {
      size_fits = fits;
      count_fits = (omega (arith, is, many), omega (arith, is));
      length_fits = omega (arith, complete, product);
    }

pub most_is_geometry : (size : ℕ) → IsBlockSize size → IsGeometry size (most_count size)
most_is_geometry size fits =
    most_fits size (67108864 / size) (67108864 % size) (min (67108864 / size) 65536) fits (div-add-mod' 67108864 size)
    (le-div 1024 67108864 size (omega (arith, fits.0)) (omega (arith, fits.1))) refl

-- fewer blocks are a geometry too
fewer_fit : (size n most : ℕ) → IsGeometry size most → 2 ≤ n → n ≤ most → IsGeometry size n
fewer_fit size n most fits two less =
    let product : n * size ≤ most * size = mul-le-mul_right size less in
    record {
      size_fits = fits.size_fits;
      count_fits = (two, omega (arith, less, fits.count_fits.1));
      length_fits = omega (arith, product, fits.length_fits);
    }

-- no more blocks are free than there are
pub few_free : (t : NewImage) (v : Volume) → IsAtWork t v → length (unused t.used) ≤ t.image.disk.count
few_free t v work =
    let unused_is : unused t.used ≡ free_blocks t.outline = unused_free t.outline t.used work.table.len work.table.marks in
    let few : length (free_blocks t.outline) + length (filter (λ b. not (uses b t.outline == 0)) (range_with_len 0 t.outline.count))
    ≡ length (range_with_len 0 t.outline.count) =
    length-filter_both (λ b. uses b t.outline == 0) (λ b. not (uses b t.outline == 0)) (λ b. refl) (range_with_len 0 t.outline.count) in
    omega (
      arith,
      ap (λ (l : List ℕ). length l) unused_is,
      few,
      length-range_with_len 0 t.outline.count,
      ap (λ (x : Volume). x.count) work.outline,
      work.unwritten.count,
    )

-- those that aren't are the first ones
used_first : (t : NewImage) (v : Volume) (n : ℕ) → IsAtWork t v → UsesFirst v n → t.image.disk.count - length (unused t.used) ≡ n
used_first t v n work first =
    let unused_is : unused t.used ≡ free_blocks v = unused_free t.outline t.used work.table.len work.table.marks
    ∙ ap free_blocks work.outline ∙ outlined_free v in
    omega (
      arith,
      ap (λ (l : List ℕ). length l) (unused_is ∙ free_range v n first.within first.free),
      length-range_with_len n (v.count - n),
      first.within,
      work.unwritten.count,
    )

pub least : CarriedFollow → PathsAreOrdered → UsesAfter → (size most : ℕ) (limits : Limits) (rows : List PackRow) (t : NewImage)
    → most ≡ most_count size → IsGeometry size most → PacksRows size most limits rows t
    → (what : List Packed) → AreRowsOf rows what → IsLeastCount size limits what (t.image.disk.count - length (unused t.used))
least follow order after size most limits rows t is fits packs what are =
    let to = packs.led what are in
    let keeps = kept follow (commands what) (empty_volume size most limits []) to.0 (rows_keep what) to.1 in
    let first = all_first follow after (commands what) (empty_volume size most limits []) to.0 (rows_keep what)
    (all_on follow order size most limits what to.0 are.packable to.1) 2 (empty_first size most limits fits.count_fits.0) in
    let same : t.image.disk.count - length (unused t.used) ≡ first.0 = used_first t to.0 first.0 to.2 first.1 in
    subst (IsLeastCount size limits what) (sym same) (record {
      geometry = fewer_fit size first.0 most fits first.1.begin (omega (arith, first.1.within, keeps.1));
      volume = to.0;
      led = subst (λ (m : ℕ). Lead (commands what) (empty_volume size m limits []) to.0) is to.1;
      uses = first.1;
    })
