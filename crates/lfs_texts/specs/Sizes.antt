-- What texts say of the sizes of images and blocks (own).
use Rattle.std.specs.Prelude.{ℕ, ◌≡◌, ◌≢◌, ◌≤◌, ◌<◌, ◌*◌, ◌/◌, ◌%◌, ◌^◌, ◌⊎◌, ◌++◌, List, codes}
use Rattle.std.specs.Str.Parse.{IsNumeral, digits_value, without_leading_plus}
use Rattle.lfs_texts.specs.declared.sizes.SizeFault.{SizeFault}
use Rattle.lfs_texts.specs.declared.sizes.SizeFault.TheVariants.{NoNumber, NoMultiple, OutOfRange}

-- digits of this radix that write a number, where a plus may stand first
abbrev pub WritesNumber : ℕ → List ℕ → ℕ → Type 0
WritesNumber radix digits number =
    IsNumeral radix (without_leading_plus digits) × (number ≡ digits_value radix (without_leading_plus digits))

-- a text ends with another
abbrev pub TextEndsWith : List ℕ → List ℕ → Type 0
TextEndsWith text end = (front : List ℕ) × (text ≡ front ++ end)

-- the digits of a text, and how many bytes the last of them stands for: 1,024 before `k`, 1,048,576 before `M`, else 1
abbrev pub HasUnit : List ℕ → List ℕ → ℕ → Type 0
HasUnit text digits unit =
    ((text ≡ digits ++ codes "k") × (unit ≡ 1024))
    ⊎ (¬ TextEndsWith text (codes "k") × (text ≡ digits ++ codes "M") × (unit ≡ 1048576))
    ⊎ (¬ TextEndsWith text (codes "k") × ¬ TextEndsWith text (codes "M") × (digits ≡ text) × (unit ≡ 1))

-- `0x` stands before the digits
abbrev pub IsHexadecimal : List ℕ → List ℕ → Type 0
IsHexadecimal text digits = text ≡ codes "0x" ++ digits

-- a text says so many bytes
abbrev pub SaysBytes : List ℕ → ℕ → Type 0
SaysBytes text bytes =
    ((digits : List ℕ) × IsHexadecimal text digits × WritesNumber 16 digits bytes)
    ⊎ (((digits : List ℕ) → ¬ IsHexadecimal text digits)
    × ((digits : List ℕ) × (unit : ℕ) × (number : ℕ) × HasUnit text digits unit × WritesNumber 10 digits number × (bytes ≡ number * unit)))

-- it says no number of bytes below 2 ^ 64
abbrev pub SaysNoBytes : List ℕ → Type 0
SaysNoBytes text = (bytes : ℕ) → SaysBytes text bytes → ¬ (bytes < 2 ^ 64)

-- a text says an image of so many blocks of this size
abbrev pub SaysBlocks : List ℕ → ℕ → ℕ → Type 0
SaysBlocks text block count = SaysBytes text (count * block) × (2 ≤ count) × (count ≤ 65536)

-- why it says none
abbrev pub IsSizeFault : SizeFault → List ℕ → ℕ → Type 0
IsSizeFault NoNumber text block = SaysNoBytes text
IsSizeFault (NoMultiple bytes size) text block = SaysBytes text bytes × (size ≡ block) × (bytes % block ≢ 0)
IsSizeFault (OutOfRange bytes size) text block =
    SaysBytes text bytes × (size ≡ block) × (bytes % block ≡ 0) × ((bytes / block < 2) ⊎ (65536 < bytes / block))

-- a text says the size of a block, where `auto` stands for this one
abbrev pub SaysBlock : List ℕ → ℕ → ℕ → Type 0
SaysBlock text stated size =
    (((text ≡ codes "auto") × (size ≡ stated)) ⊎ ((text ≢ codes "auto") × WritesNumber 10 text size)) × (256 ≤ size) × (size ≤ 65536)

-- it says none
abbrev pub SaysNoBlock : List ℕ → ℕ → Type 0
SaysNoBlock text stated = (size : ℕ) → ¬ SaysBlock text stated size
