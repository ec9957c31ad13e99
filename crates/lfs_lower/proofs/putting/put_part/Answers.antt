-- The block that is written is the live one of the pair, and the pair then holds the part.
use Rattle.std.proofs.Common.{◌≡◌, ℕ, ap, sym, subst}
use Rattle.std.proofs.lemmas.Bool.{OnTrue_at}
use Rattle.std.proofs.lemmas.Result.{on_ok_weaker}
use Rattle.lfs_block.specs.Disk.{Disk}
use Rattle.lfs_meta.specs.Body.{Pair}
use Rattle.lfs_pair.specs.Appending.{live_number, live_of, number_by}
use Rattle.lfs_pair.specs.Writing.{IsPartBlock, other_number}
use Rattle.lfs_fs.specs.Gathering.{PairPart}
use Rattle.lfs_lower.specs.Alone.{AreOf}
use Rattle.lfs_lower.proofs.AloneBlocks.{apart_by, beside_within, live_within, of_places}
use Rattle.lfs_lower.proofs.PartsPut.{part_put, part_stays}
use Rattle.lfs_lower.proofs.putting.put_part.Goals as goal

-- the blocks that are written are those of the pair
of_part : (d : Disk) (inside pair : Pair) (live beside : ℕ) → inside ≡ pair → live ≡ live_number d inside → beside ≡ other_number d inside
    → AreOf pair live beside
of_part d inside pair live beside is live_is beside_is =
    subst (λ (p : Pair). AreOf p live beside) is
    (subst (λ (n : ℕ). AreOf inside n beside) (sym live_is)
    (subst (λ (n : ℕ). AreOf inside (number_by (live_of d inside) inside) n) (sym beside_is) (of_places (live_of d inside) inside)))

pub write_alone-requires-clause-apart : goal.write_alone-requires-clause-apart
write_alone-requires-clause-apart g c =
    let places = c.places_of-places.ensures in
    apart_by c.args.part.now.0 c.places_of-places.result.live c.places_of-places.result.beside c.requires.apart
    (of_part (g.B.Blocks.disk c.args.image.now) c.part.inside.pair c.args.part.now.0 c.places_of-places.result.live c.places_of-places.result.beside
    (ap (λ (p : PairPart). p.0) c.part.view_is) places.live places.beside)

pub write_alone-requires-clause-first : goal.write_alone-requires-clause-first
write_alone-requires-clause-first g c =
    let places = c.places_of-places.ensures in
    live_within (g.B.Blocks.disk c.args.image.now).count c.args.part.now.0 c.places_of-places.result.live c.places_of-places.result.beside c.requires.first
    c.requires.second
    (of_part (g.B.Blocks.disk c.args.image.now) c.part.inside.pair c.args.part.now.0 c.places_of-places.result.live c.places_of-places.result.beside
    (ap (λ (p : PairPart). p.0) c.part.view_is) places.live places.beside)

pub write_alone-requires-clause-second : goal.write_alone-requires-clause-second
write_alone-requires-clause-second g c =
    let places = c.places_of-places.ensures in
    beside_within (g.B.Blocks.disk c.args.image.now).count c.args.part.now.0 c.places_of-places.result.live c.places_of-places.result.beside c.requires.first
    c.requires.second
    (of_part (g.B.Blocks.disk c.args.image.now) c.part.inside.pair c.args.part.now.0 c.places_of-places.result.live c.places_of-places.result.beside
    (ap (λ (p : PairPart). p.0) c.part.view_is) places.live places.beside)

pub returns-then-branch : goal.returns-then-branch
returns-then-branch g c = part_stays (g.B.Blocks.disk c.args.image.now) c.args.part.now c.size-size.ensures.disk (OnTrue_at c.if-branch.true c.in_ok-holds_part.ensures)

pub returns : goal.returns
returns g c =
    let d : Disk = (g.B.Blocks.disk c.args.image.now) in
    let e : Disk = (g.B.Blocks.disk c.write_alone.new.image) in
    let p : PairPart = c.args.part.now in
    let live : ℕ = c.places_of-places.result.live in
    let beside : ℕ = c.places_of-places.result.beside in
    let number : ℕ = c.places_of-places.result.revision in
    let places = c.places_of-places.ensures in
    let of : AreOf p.0 live beside =
    of_part d c.part.inside.pair p.0 live beside (ap (λ (q : PairPart). q.0) c.part.view_is) places.live places.beside in
    let block : IsPartBlock d.size number p.1 c.deref.result.now =
    subst (IsPartBlock d.size number p.1) (sym c.deref.ensures.value)
    (subst (λ (n : ℕ). IsPartBlock n number p.1 c.in_ok-block.block.items) c.size-size.ensures.value c.in_ok-block.ensures) in
    on_ok_weaker c.write_alone.result (λ written.
    part_put c.erased_block.ensures c.log_is_read.ensures d e p live beside number c.deref.result.now c.size-size.ensures.disk of block written)
    c.write_alone.ensures.written
