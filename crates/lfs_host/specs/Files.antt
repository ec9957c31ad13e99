-- Files by their names, and standard input, where they are known (own).
use Rattle.std.specs.Prelude.{ℕ, ◌≡◌, ◌+◌, List, [], ◌∷◌, Option, Some, None, IsSome, take, drop, ⊤}
use Rattle.lfs_host.specs.declared.lock.Lock.{Lock}
use Rattle.lfs_host.specs.declared.lock.Lock.TheVariants.{NoFile}

-- the bytes of the file of each name; none where there is no such file
abbrev pub Files : Type 0
Files = List ℕ → Option (List ℕ)

-- a name leads to itself where the files are known: none of them is a link
abbrev pub IsTarget : Option Files → List ℕ → List ℕ → Type 0
IsTarget None name target = ⊤
IsTarget (Some files) name target = target ≡ name

-- there is no file of a name, where the files are known
abbrev pub IsMissing : Option Files → List ℕ → Type 0
IsMissing None name = ⊤
IsMissing (Some files) name = files name ≡ None

-- there is a file of a name, where the files are known
abbrev pub IsFileThere : Option Files → List ℕ → Type 0
IsFileThere None name = ⊤
IsFileThere (Some files) name = IsSome (files name)

-- whether there is a file of a name is said only where it is so
abbrev pub IsLocked : Option Files → List ℕ → Lock → Type 0
IsLocked files name NoFile = IsMissing files name
IsLocked files name _ = IsFileThere files name

-- these are the first bytes of known ones, `most` of them and one more at most
abbrev pub BeginsWith : ℕ → List ℕ → List ℕ → Type 0
BeginsWith most complete bytes = bytes ≡ take (most + 1) complete

-- what is read of a file from a place on
abbrev pub ReadsFrom : Option Files → List ℕ → ℕ → ℕ → List ℕ → Type 0
ReadsFrom None name place most bytes = ⊤
ReadsFrom (Some files) name place most bytes = (complete : List ℕ) × (files name ≡ Some complete) × BeginsWith most (drop place complete) bytes

-- what is read of a file from its beginning on
abbrev pub ReadsFile : Option Files → List ℕ → ℕ → List ℕ → Type 0
ReadsFile files name most bytes = ReadsFrom files name 0 most bytes

-- the bytes of a file, none where there is no such file
abbrev pub bytes_there : Option (List ℕ) → List ℕ
bytes_there None = []
bytes_there (Some complete) = complete

-- what is read of a file that may not be there
abbrev pub FindsFile : Option Files → List ℕ → ℕ → List ℕ → Type 0
FindsFile None name most bytes = ⊤
FindsFile (Some files) name most bytes = BeginsWith most (bytes_there (files name)) bytes

-- what is read of standard input, of which these bytes are known to be left
abbrev pub ReadsInput : Option (List ℕ) → ℕ → List ℕ → Type 0
ReadsInput None most bytes = ⊤
ReadsInput (Some complete) most bytes = BeginsWith most complete bytes

-- what is said of files before and after, where they are known
abbrev pub OnKnown : (Files → Files → Type 0) → Option Files → Option Files → Type 0
OnKnown says None new = ⊤
OnKnown says (Some old) None = ⊥
OnKnown says (Some old) (Some new) = says old new

-- a name is none of these
abbrev pub Apart : List ℕ → List (List ℕ) → Type 0
Apart name [] = ⊤
Apart name (other ∷ others) = ¬ (name ≡ other) × Apart name others

-- files stay as they were, but for those of these names
abbrev pub StaysBut : List (List ℕ) → Files → Files → Type 0
StaysBut names old new = (name : List ℕ) → Apart name names → new name ≡ old name

-- known files stay as they were, but for the file of one name
abbrev pub KeepsOthers : Option Files → Option Files → List ℕ → Type 0
KeepsOthers old new name = OnKnown (StaysBut (name ∷ [])) old new

-- the file of a name has these bytes now, and files stay as they were but for it
abbrev pub HasWritten : List ℕ → List ℕ → Files → Files → Type 0
HasWritten name bytes old new = (new name ≡ Some bytes) × StaysBut (name ∷ []) old new

-- the same where files are known
abbrev pub WritesFiles : Option Files → Option Files → List ℕ → List ℕ → Type 0
WritesFiles old new name bytes = OnKnown (HasWritten name bytes) old new

-- what was under one name is under another, and files stay as they were but for these two
abbrev pub HasRenamed : List ℕ → List ℕ → Files → Files → Type 0
HasRenamed from to old new =
    (new to ≡ old from) × (¬ (from ≡ to) → new from ≡ None) × StaysBut (from ∷ to ∷ []) old new

-- the same where files are known
abbrev pub Renames : Option Files → Option Files → List ℕ → List ℕ → Type 0
Renames old new from to = OnKnown (HasRenamed from to) old new

-- the file of a name has these bytes now, nothing is under the other name, and files stay as they were but for these two
abbrev pub HasReplaced : List ℕ → List ℕ → List ℕ → Files → Files → Type 0
HasReplaced name leftover bytes old new =
    (new name ≡ Some bytes) × (new leftover ≡ None) × StaysBut (leftover ∷ name ∷ []) old new

-- the same where files are known
abbrev pub Replaces : Option Files → Option Files → List ℕ → List ℕ → List ℕ → Type 0
Replaces old new name leftover bytes = OnKnown (HasReplaced name leftover bytes) old new
