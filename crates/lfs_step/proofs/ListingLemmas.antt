-- What is said of a listing that didn't go out as a whole.
use Rattle.std.proofs.Common.{◌≡◌, ◌∙◌, Bool, Bor, List, None, Option, Some, ap, inl, inr, refl, subst, sym, ℕ}
use Rattle.std.specs.Io.KnownBytes.{Appends}
use Rattle.lfs_block.specs.Disk.{Disk}
use Rattle.lfs_fs.specs.Mounted.{MountedValue, IsMountOf}
use Rattle.lfs_fs.specs.Path.{Path}
use Rattle.lfs_json.specs.declared.form.Form.{Form}
use Rattle.lfs_block.specs.declared.mount_fault.MountFault.{MountFault}
use Rattle.lfs_block.specs.declared.mount_fault.MountFault.TheVariants.{Memory as No_memory_left}
use Rattle.lfs_listing.specs.Unsent.{SendsListing, blames_sink}
use Rattle.lfs_listing.specs.declared.unsent.Unsent.{Unsent}
use Rattle.lfs_listing.specs.declared.unsent.Unsent.TheVariants.{Memory, CannotWrite}
use Rattle.lfs_request.specs.declared.query.Query.TheVariants.{Ls, Blocks}
use Rattle.lfs_request.specs.declared.fault.Fault.{Fault}
use Rattle.lfs_request.specs.Fault.{blames_output, fault_of_mount}
use Rattle.lfs_step.proofs.ComparingLemmas.{same_kept}
use Rattle.lfs_request.specs.Standing.{IsPathThere}
use Rattle.lfs_step.specs.Listed.{IsListing, listing_text}
use Rattle.lfs_step.specs.Query.{RefusesReport, SendsReport, blocks_text, fault_of_unsent}

-- the sink is blamed by the fault that is told
pub blamed_alike : (u : Unsent) (f : Fault) → f ≡ fault_of_unsent u → blames_sink (Some u) ≡ blames_output (Some f)
blamed_alike u f is = told u ∙ ap (λ (x : Fault). blames_output (Some x)) (sym is)
  where
    told : (u : Unsent) → blames_sink (Some u) ≡ blames_output (Some (fault_of_unsent u))
    told Memory = refl
    told CannotWrite = refl

-- nothing goes out of an image that doesn't mount
pub listing_silent : (form : Form) (digests : Bool) (path : Bor (List ℕ)) (d : Disk) (cause : MountFault) (f : Fault) (o : Option (List ℕ)) → f ≡ fault_of_mount cause
    → SendsReport (Ls path digests) form d (Some f) o o
listing_silent form digests path d cause f o is =
    subst (λ (x : Fault). SendsReport (Ls path digests) form d (Some x) o o) (sym is) (silent form digests path d cause o)
  where
    silent : (form : Form) (digests : Bool) (path : Bor (List ℕ)) (d : Disk) (cause : MountFault) (o : Option (List ℕ))
        → SendsReport (Ls path digests) form d (Some (fault_of_mount cause)) o o
    silent form digests path d No_memory_left o = inl (same_kept o)
    silent form digests path d _ o = same_kept o

-- what lists a path at which something stands
listing_is : (form : Form) (digests : Bool) (d : Disk) (m : MountedValue) (is : IsMountOf d m) (path : Bor (List ℕ)) (at : Path) → IsPathThere d m path.now at
    → IsListing form digests d path.now (listing_text form digests d at m.rows)
listing_is form digests d m is path at there = record { mounted = m; mounts = is; at = at; there = there; text_is = refl }

pub listing_complete : (form : Form) (digests : Bool) (d : Disk) (m : MountedValue) → IsMountOf d m → (path : Bor (List ℕ)) (at : Path) → IsPathThere d m path.now at
    → (old new : Option (List ℕ)) → Appends old new (listing_text form digests d at m.rows) → SendsReport (Ls path digests) form d None old new
listing_complete form digests d m is path at there old new sends = (listing_text form digests d at m.rows, listing_is form digests d m is path at there, sends)

pub listing_refused : (form : Form) (digests : Bool) (d : Disk) (m : MountedValue) → IsMountOf d m → (path : Bor (List ℕ)) (at : Path) → IsPathThere d m path.now at
    → (u : Unsent) → RefusesReport (Ls path digests) form d (fault_of_unsent u)
listing_refused form digests d m is path at there Memory = tt
listing_refused form digests d m is path at there CannotWrite = (listing_text form digests d at m.rows, listing_is form digests d m is path at there)

pub listing_sent : (form : Form) (digests : Bool) (d : Disk) (m : MountedValue) → IsMountOf d m → (path : Bor (List ℕ)) (at : Path) → IsPathThere d m path.now at
    → (u : Unsent) (old new : Option (List ℕ)) → SendsListing (Some u) old new (listing_text form digests d at m.rows)
    → SendsReport (Ls path digests) form d (Some (fault_of_unsent u)) old new
listing_sent form digests d m is path at there Memory old new (n, within, sends) =
    inr (listing_text form digests d at m.rows, listing_is form digests d m is path at there, n, within, sends)
listing_sent form digests d m is path at there CannotWrite old new sends = (listing_text form digests d at m.rows, listing_is form digests d m is path at there, sends)

pub blocks_refused : (form : Form) (sums : Bool) (d : Disk) (m : MountedValue) → IsMountOf d m → (u : Unsent)
    → RefusesReport (Blocks sums) form d (fault_of_unsent u)
blocks_refused form sums d m is Memory = tt
blocks_refused form sums d m is CannotWrite = (blocks_text form sums m, (m, is, refl))

pub blocks_sent : (form : Form) (sums : Bool) (d : Disk) (m : MountedValue) → IsMountOf d m → (u : Unsent) (old new : Option (List ℕ))
    → SendsListing (Some u) old new (blocks_text form sums m) → SendsReport (Blocks sums) form d (Some (fault_of_unsent u)) old new
blocks_sent form sums d m is Memory old new (n, within, sends) = inr (blocks_text form sums m, (m, is, refl), n, within, sends)
blocks_sent form sums d m is CannotWrite old new sends = (blocks_text form sums m, (m, is, refl), sends)
