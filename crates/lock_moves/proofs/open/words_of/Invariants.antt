use Rattle.std.proofs.Common.{◌≡◌, ℕ, ◌<◌, ◌+◌, length, slice_index}
use Rattle.journal_core.specs.Histories.{home_at, now_at, decides_at}
use Rattle.lock_moves.proofs.open.words_of.Given as goal

abbrev pub invariant-loop-n : goal.invariant-loop-n
invariant-loop-n g l = (length l.words ≡ 211) × ((k : ℕ) → k < 18 → slice_index l.words k ≡ 0) × ((p : ℕ) → p < l.n → slice_index l.words (18 + p) ≡ home_at l.book.input l.book.history p)

abbrev pub invariant-loop-r : goal.invariant-loop-r
invariant-loop-r g l = (length l.words ≡ 211) × ((k : ℕ) → k < 18 → slice_index l.words k ≡ 0) × ((p : ℕ) → p < 128 → slice_index l.words (18 + p) ≡ home_at l.book.input l.book.history p)
    × (slice_index l.words 146 ≡ now_at l.book.input l.book.history) × ((q : ℕ) → q < l.r → slice_index l.words (147 + q) ≡ decides_at l.book.history q)
