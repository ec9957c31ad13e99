-- Which texts say a fault, and which faults there are (own).
use Rattle.std.specs.Prelude.{◌≡◌, ◌⊎◌, ◌<◌, ◌^◌, ◌==◌, Bool, ℕ, List, [], ◌∷◌, codes, length, map}
use Rattle.std.specs.Char.{to_ascii_lowercase}
use Rattle.std.specs.List.{after_first, before_first, position_or_len}
use Rattle.std.specs.Str.Parse.{IsNumeral, digits_value, without_leading_plus}
use Rattle.lfs_texts.specs.declared.explanation.Explanation.{Explanation}

-- the number of a fault, and its name
abbrev pub Fault : Type 0
Fault = ℕ × List ℕ

-- the fault that something is said of
abbrev pub fault_of : Explanation → Fault
fault_of known = (known.number, known.name.now)

-- a word is the decimal digits of a number below 2 ^ 8, where a plus may stand first
abbrev pub SpellsFaultNumber : List ℕ → ℕ → Type 0
SpellsFaultNumber word number =
    IsNumeral 10 (without_leading_plus word) × (number ≡ digits_value 10 (without_leading_plus word)) × (number < 2 ^ 8)

-- two texts are the same but for the case of letters
abbrev pub AreSameInAnyCase : List ℕ → List ℕ → Type 0
AreSameInAnyCase one other = map to_ascii_lowercase one ≡ map to_ascii_lowercase other

-- a word is the number of a fault, or no number but the fault's name in any case
abbrev pub IsWordOf : List ℕ → Fault → Type 0
IsWordOf word fault =
    SpellsFaultNumber word fault.0 ⊎ (((number : ℕ) → ¬ SpellsFaultNumber word number) × AreSameInAnyCase fault.1 word)

-- a space
abbrev pub is_space : ℕ → Bool
is_space c = c == 32

-- a text without a space is a word of a fault; or the text before the first space is, and the rest is the fault's name in any case
abbrev pub SaysFault : List ℕ → Fault → Type 0
SaysFault text fault =
    ((position_or_len is_space text ≡ length text) × IsWordOf text fault)
    ⊎ ((position_or_len is_space text < length text) × IsWordOf (before_first is_space text) fault
    × AreSameInAnyCase fault.1 (after_first is_space text))

-- the faults
abbrev pub faults : List Fault
faults =
    (1, codes "ImageLength") ∷
    (2, codes "BadGeometry") ∷
    (3, codes "NoValidCommit") ∷
    (4, codes "UnknownTag") ∷
    (5, codes "BadTag") ∷
    (6, codes "IncompleteEntry") ∷
    (7, codes "BadName") ∷
    (8, codes "BadSkipList") ∷
    (9, codes "NoSuperblock") ∷
    (10, codes "Version") ∷
    (11, codes "Geometry") ∷
    (12, codes "Limits") ∷
    (13, codes "OrderFault") ∷
    (14, codes "BlockRange") ∷
    (15, codes "BlockTwice") ∷
    (16, codes "MissingDirectory") ∷
    (17, codes "Orphan") ∷
    (18, codes "UnfinishedMove") ∷
    (19, codes "SuperblockElsewhere") ∷
    (20, codes "BadSize") ∷
    (21, codes "UnknownState") ∷
    (22, codes "DamagedCommit") ∷
    (30, codes "NotFound") ∷
    (31, codes "Exists") ∷
    (32, codes "NotADirectory") ∷
    (33, codes "IsADirectory") ∷
    (34, codes "NotEmpty") ∷
    (35, codes "BadPath") ∷
    (36, codes "NameTooLong") ∷
    (37, codes "FileTooLarge") ∷
    (38, codes "AttrTooLarge") ∷
    (39, codes "NoAttr") ∷
    (40, codes "IntoItself") ∷
    (41, codes "IsRoot") ∷
    (42, codes "EntryTooLarge") ∷
    (43, codes "NoSpace") ∷
    (44, codes "Memory") ∷
    (46, codes "BadCount") ∷
    (50, codes "JournalFormat") ∷
    (51, codes "JournalMismatch") ∷
    (52, codes "JournalImage") ∷
    (53, codes "NothingToUndo") ∷
    (54, codes "NothingToRedo") ∷
    (55, codes "JournalFull") ∷
    (56, codes "JournalHasChanges") ∷
    (60, codes "CannotRead") ∷
    (61, codes "CannotWrite") ∷
    (62, codes "HostEntry") ∷
    (63, codes "HostName") ∷
    (64, codes "BadHex") ∷
    (65, codes "BadLine") ∷ []
