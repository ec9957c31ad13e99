-- The limits of images, as they are tested and as they are said.
use Rattle.std.proofs.Common.{◌≡◌, ℕ, ◌*◌, ◌%◌, Bool, true, false, eqb, leb, ◌&&◌, eq-eqb}
use Rattle.std.proofs.lemmas.Bool.{eqb-true, leb-true, le-leb, and_parts}
use Rattle.lfs_block.specs.Geometry.{IsGeometry, is_geometry}

pub true_and : (a b : Bool) → a ≡ true → b ≡ true → (a && b) ≡ true
true_and true b e f = f
true_and false b e f = absurd cc

pub geometry_true : (size count : ℕ) → is_geometry size count ≡ true → IsGeometry size count
geometry_true size count e =
    let a = and_parts _ (leb (count * size) 67108864) e in
    let b = and_parts _ (leb count 65536) a.0 in
    let c = and_parts _ (leb 2 count) b.0 in
    let d = and_parts _ (eqb (size % 16) 0) c.0 in
    let f = and_parts (leb 256 size) (leb size 65536) d.0 in
    record {
      size_fits = (leb-true _ _ f.0, leb-true _ _ f.1, eqb-true _ _ d.1);
      count_fits = (leb-true _ _ c.1, leb-true _ _ b.1);
      length_fits = leb-true _ _ a.1;
    }

pub geometry_is : (size count : ℕ) → IsGeometry size count → is_geometry size count ≡ true
geometry_is size count is =
    true_and _ _ (true_and _ _ (true_and _ _ (true_and _ _ (true_and _ _ (le-leb _ _ is.size_fits.0) (le-leb _ _ is.size_fits.1))
    (eq-eqb _ _ is.size_fits.2))
    (le-leb _ _ is.count_fits.0)) (le-leb _ _ is.count_fits.1)) (le-leb _ _ is.length_fits)
