-- What `check` prints (own).
use Rattle.std.specs.Prelude.{ℕ, ◌/◌, ◌%◌, Bool, false, List, [], ◌∷◌, ◌++◌, Option, Some, None, length, count_by, nat_lt, not, codes}
use Rattle.std.specs.Fmt.{decimal}
use Rattle.lfs_block.specs.Disk.{Disk}
use Rattle.lfs_fs.specs.Entry.{leads}
use Rattle.lfs_fs.specs.Mounted.{MountedValue}
use Rattle.lfs_json.specs.Line.{line_of}
use Rattle.lfs_json.specs.Summary.{json_of_summary}
use Rattle.lfs_json.specs.declared.form.Form.{Form}
use Rattle.lfs_json.specs.declared.form.Form.TheVariants.{Text, Json}
use Rattle.lfs_json.specs.declared.summary.Summary.{Summary}
use Rattle.lfs_listing.specs.Inlined.{longer_text, longest}

-- the number of directories, of which the root is one
abbrev pub directories : MountedValue → ℕ
directories mounted = count_by (λ row. leads row.entry) mounted.rows

-- the number of files
abbrev pub files : MountedValue → ℕ
files mounted = count_by (λ row. not (leads row.entry)) mounted.rows

-- the length of the longest file that stands in its entry
abbrev pub inline_longest : MountedValue → ℕ
inline_longest mounted = longest mounted.rows

-- what one line says of an image and what it mounts to, up to its disk version
abbrev pub counts : Disk → MountedValue → List ℕ
counts disk mounted =
    codes "block " ++ (decimal disk.size
    ++ (codes ", count " ++ (decimal disk.count
    ++ (codes ", free " ++ (decimal (length mounted.free)
    ++ (codes ", directories " ++ (decimal (directories mounted)
    ++ (codes ", files " ++ (decimal (files mounted) ++ codes ", version ")))))))))

-- a disk version, which has its major number in the upper half, and a newline
abbrev pub version_line : ℕ → List ℕ
version_line version = decimal (version / 65536) ++ (codes "." ++ (decimal (version % 65536) ++ 10 ∷ []))

-- one line on an image of a disk version and what it mounts to
abbrev pub summary : ℕ → Disk → MountedValue → List ℕ
summary version disk mounted = counts disk mounted ++ version_line version

-- the same in numbers, with the limits and the longest file that stands in its entry
abbrev pub summary_of : ℕ → Disk → MountedValue → Summary
summary_of version disk mounted = record {
  block = disk.size;
  count = disk.count;
  free = length mounted.free;
  directories = directories mounted;
  files = files mounted;
  version = version;
  limits = mounted.outline.limits;
  inline_longest = inline_longest mounted;
}

-- in a form
abbrev pub summary_text : Form → ℕ → Disk → MountedValue → List ℕ
summary_text Text version disk mounted = summary version disk mounted
summary_text Json version disk mounted = line_of (json_of_summary (summary_of version disk mounted))

-- the lines of the files that stand in their entries and are longer than is asked; an object has the length of the longest in their place
abbrev pub longer_if_asked : Form → Option ℕ → MountedValue → List ℕ
longer_if_asked Text (Some most) mounted = longer_text most mounted.rows
longer_if_asked form most mounted = []

-- there is one that is
abbrev pub has_longer : Option ℕ → MountedValue → Bool
has_longer None mounted = false
has_longer (Some most) mounted = nat_lt most (inline_longest mounted)

-- the line of an image, with theirs after it
abbrev pub check_text : Form → ℕ → Option ℕ → Disk → MountedValue → List ℕ
check_text form version most disk mounted = summary_text form version disk mounted ++ longer_if_asked form most mounted
