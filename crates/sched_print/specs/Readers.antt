-- Forms of texts, and how a text is read by its form. What is not of the form leaves as many bytes as stand behind the longest
-- beginning that some text of the form has.
use Rattle.std.specs.Prelude.{◌≡◌, ℕ, ◌+◌, ◌-◌, ◌*◌, ◌==◌, ◌&&◌, Bool, min, List, [], ◌∷◌, length, Result, Ok, Err, nat_lt, nat_le, if◌then◌else◌}
use Rattle.sched_model.specs.declared.event.Entry.{Entry}
pub use Rattle.sched_base.specs.Results.{◌>>=◌}

pub data Form : Type 0 where
  -- nothing more: the text of this entry
  Done : Entry → Form
  -- these bytes, and then a text of the form
  Word : List ℕ → Form → Form
  -- the digits of a number that is at least low and below high, and then a text of the form that the number has
  Number : (low high : ℕ) → (ℕ → Form) → Form
  -- a text of the one form or of the other
  Either : Form → Form → Form

-- what a function returned, seen by view, is what was to be found
abbrev pub Gives : {X Y : Type 0} → (X → Y) → Result X ℕ → Result Y ℕ → Type 0
Gives view (Ok x) found = found ≡ Ok (view x)
Gives view (Err left) found = found ≡ Err left

-- behind the word
unfoldable pub word_at : List ℕ → List ℕ → Result (List ℕ) ℕ
word_at [] bytes = Ok bytes
word_at (c ∷ word) [] = Err 0
word_at (c ∷ word) (b ∷ bytes) = if b == c then word_at word bytes else Err (length (b ∷ bytes))

-- a digit goes on with the number, which stays below high
abbrev pub goes_on : ℕ → ℕ → ℕ → Bool
goes_on high n b = nat_le 48 b && nat_le b 57 && nat_lt (10 * n + (b - 48)) high

-- the number that began with n, as long as it is below high, and the bytes behind it
unfoldable pub digits_at : ℕ → ℕ → List ℕ → ℕ × List ℕ
digits_at high n [] = (n, [])
digits_at high n (b ∷ bytes) = if goes_on high n b then digits_at high (10 * n + (b - 48)) bytes else (n, b ∷ bytes)

-- the number at the front, and the bytes behind it
unfoldable pub number_at : ℕ → ℕ → List ℕ → Result (ℕ × List ℕ) ℕ
number_at low high [] = Err 0
number_at low high (b ∷ bytes) =
    if b == 48 then (if low == 0 then Ok (0, bytes) else Err (length (b ∷ bytes)))
    else (if goes_on high 0 b then Ok (digits_at high (b - 48) bytes) else Err (length (b ∷ bytes)))

-- nothing is left
abbrev pub end_at : Entry → List ℕ → Result Entry ℕ
end_at e [] = Ok e
end_at e (b ∷ bytes) = Err (length (b ∷ bytes))

-- the first that was read, or the one that came further
abbrev pub better_reading : Result Entry ℕ → Result Entry ℕ → Result Entry ℕ
better_reading (Ok e) other = Ok e
better_reading (Err left) (Ok e) = Ok e
better_reading (Err left) (Err other) = Err (min left other)

-- the entry whose text the bytes are, or how many bytes are left where they are no text of the form
abbrev pub read : Form → List ℕ → Result Entry ℕ
read (Done e) bytes = end_at e bytes
read (Word word f) bytes = word_at word bytes >>= read f
read (Number low high f) bytes = number_at low high bytes >>= λ x. read (f x.0) x.1
read (Either f g) bytes = better_reading (read f bytes) (read g bytes)
