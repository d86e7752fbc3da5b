-- What a word stands for.
use Rattle.std.specs.Prelude.{ℕ, ◌+◌, ◌*◌, ◌-◌, ◌==◌, ◌&&◌, ◌||◌, Bool, true, false, List, [], ◌∷◌, Option, Some, None, option_map, length, bytes_eq, nat_le, codes, if◌then◌else◌}
use Rattle.std.specs.Char.{is_ascii_digit}
use Rattle.std.specs.List.{list_all, fold}
use Rattle.sched_base.specs.Names.{is_valid_name}
use Rattle.sched_model.specs.declared.command.Which.{Which}
use Rattle.sched_model.specs.declared.command.Which.TheVariants.{Name, Number}
use Rattle.sched_model.specs.declared.command.ArincEntry.{ArincEntry}
use Rattle.sched_model.specs.declared.config.SchedKind.{SchedKind}
use Rattle.sched_model.specs.declared.config.SchedKind.TheVariants as kinds
use Rattle.xl_words.specs.Parts.{parts}

-- the number that decimal digits write
abbrev pub decimal : List ℕ → ℕ
decimal digits = fold (λ n b. 10 * n + (b - 48)) 0 digits

-- a number as files and commands spell it: 0, or a digit 1 to 9 and up to 14 digits
abbrev pub spells_number : List ℕ → Bool
spells_number [] = false
spells_number (b ∷ digits) = (b == 48 && length digits == 0) || (nat_le 49 b && nat_le b 57 && nat_le (length digits) 14 && list_all is_ascii_digit digits)

-- the number that a word spells
abbrev pub number_of : List ℕ → Option ℕ
number_of word = if spells_number word then Some (decimal word) else None

-- the name that a word spells
abbrev pub name_of : List ℕ → Option (List ℕ)
name_of word = if is_valid_name word then Some word else None

-- a pool or a domain, by its name or its number
abbrev pub which_of : List ℕ → Option Which
which_of word = if is_valid_name word then Some (Name word) else option_map Number (number_of word)

-- the index of a vCPU, or all of them
abbrev pub vcpu_of : List ℕ → Option (Option ℕ)
vcpu_of word = if bytes_eq word (codes "all") then Some None else option_map Some (number_of word)

-- a switch: 0 is off and 1 is on
abbrev pub switch_of : List ℕ → Option Bool
switch_of word = if bytes_eq word (codes "0") then Some false else (if bytes_eq word (codes "1") then Some true else None)

-- the scheduler of this name
abbrev pub kind_of : List ℕ → Option SchedKind
kind_of word =
    if bytes_eq word (codes "credit2") then Some kinds.Credit2
    else (if bytes_eq word (codes "rtds") then Some kinds.Rtds
    else (if bytes_eq word (codes "arinc653") then Some kinds.Arinc653
    else (if bytes_eq word (codes "null") then Some kinds.Null else None)))

-- a value in front of others, where all are there
abbrev pub in_front : {X : Type 0} → Option X → Option (List X) → Option (List X)
in_front None xs = None
in_front (Some x) xs = option_map (λ behind. x ∷ behind) xs

-- what all items stand for, or nothing where one stands for nothing
abbrev pub each_of : {X : Type 0} → (List ℕ → Option X) → List (List ℕ) → Option (List X)
each_of read [] = Some []
each_of read (item ∷ items) = in_front (read item) (each_of read items)

-- a list of 1 to 64 items that commas join
abbrev pub list_of : {X : Type 0} → (List ℕ → Option X) → List ℕ → Option (List X)
list_of read word = if nat_le (length (parts 44 word)) 64 then each_of read (parts 44 word) else None

-- the three parts of an entry of a frame
abbrev pub entry_from : List (List ℕ) → Option ArincEntry
entry_from (dom ∷ unit ∷ run ∷ []) =
    elim (which_of dom) [
      | None ↦ None
      | Some d ↦ elim (number_of unit) [ None ↦ None | Some u ↦ option_map (λ n. record { dom = d; unit = u; run = n }) (number_of run) ]
    ]
entry_from _ = None

-- an entry of a frame: a domain, a unit and a run, which colons join
abbrev pub entry_of : List ℕ → Option ArincEntry
entry_of item = entry_from (parts 58 item)

-- the ends of a range, in order
abbrev pub range_from : List (List ℕ) → Option (ℕ × ℕ)
range_from (one ∷ []) = option_map (λ n. (n, n)) (number_of one)
range_from (low ∷ high ∷ []) =
    elim (number_of low) [
      | None ↦ None
      | Some n ↦ elim (number_of high) [ None ↦ None | Some m ↦ (if nat_le n m then Some (n, m) else None) ]
    ]
range_from _ = None

-- a processor, or a range of processors whose ends a hyphen joins
abbrev pub range_of : List ℕ → Option (ℕ × ℕ)
range_of item = range_from (parts 45 item)

-- the entries of a frame
abbrev pub entries_of : List ℕ → Option (List ArincEntry)
entries_of word = list_of entry_of word

-- the processors of a pin: no range where it is all of them
abbrev pub cpus_of : List ℕ → Option (List (ℕ × ℕ))
cpus_of word = if bytes_eq word (codes "all") then Some [] else list_of range_of word
