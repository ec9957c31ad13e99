-- A call that a host may refuse, with the names that it is given (own).
use Rattle.std.specs.Prelude.{ℕ, List}

pub data HostCall : Type 0 where
  -- what is under a name, which names are in a folder, and the bytes of a file of one
  Looking : (name : List ℕ) → HostCall
  Listing : (name : List ℕ) → HostCall
  ReadingEntry : (name : List ℕ) → HostCall
  -- the file that a name leads to, its lock, and that there is none
  Aiming : (name : List ℕ) → HostCall
  Locking : (name : List ℕ) → HostCall
  Sparing : (name : List ℕ) → HostCall
  -- the bytes of a file, of one that may be missing, of one whose contents are put, and of standard input
  Reading : (name : List ℕ) → HostCall
  Finding : (name : List ℕ) → HostCall
  ReadingContents : (name : List ℕ) → HostCall
  ReadingInput : HostCall
  -- a file that is written, and one that gets another name: that of a file which is locked, or of any
  Writing : (name : List ℕ) → HostCall
  Renaming : (from to : List ℕ) → HostCall
  Settling : (from to : List ℕ) → HostCall
  -- standard output
  Printing : HostCall
  Flushing : HostCall
  -- in a new folder: a folder, a file that is begun, its bytes, and its end
  MakingFolder : (name : List ℕ) → HostCall
  BeginningFile : (name : List ℕ) → HostCall
  FillingFile : HostCall
  EndingFile : (name : List ℕ) → HostCall
