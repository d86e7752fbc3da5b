-- The lines that are written of a watched run, and how it has ended.
use Rattle.std.proofs.Common.{◌≡◌, ℕ, zero, suc, ◌+◌, ◌≤◌, false, List, [], ◌∷◌, ◌++◌, length, slice_get, Some, refl, ap, ◌∙◌, arith}
use Rattle.journal_core.specs.Books.{Chronicle}
use Rattle.pcpu_threads.specs.declared.ends.RunEnd.{RunEnd}
use Rattle.pcpu_threads.specs.declared.ends.RunEnd.TheVariants as run_end
use Rattle.pcpu_watch.specs.declared.looks.Look.{Look}
use Rattle.pcpu_watch.specs.Looks.{AreLooks}
use Rattle.pcpu_watch.specs.WatchedRun.{IsWatched, end_of}
use Rattle.sched_model.specs.declared.machine.Machine.{Machine}
use Rattle.xensched_top.specs.Ends.{HasEnded}
use Rattle.xensched_top.specs.WatchedRun.{look_lines, text_of_look}
use Rattle.xensched_top.proofs.FreeLemmas.{free_ends}

-- the line of a look, behind k lines
pub look_line_at : (k i : ℕ) (looks : List Look) (look : Look) (last : List ℕ) → slice_get looks i ≡ Some look →
    slice_get (look_lines k looks ++ last ∷ []) i ≡ Some (text_of_look (k + i) look)
look_line_at k i [] look last found = absurd (cc (found))
look_line_at k zero (first ∷ looks) look last found =
    let same : first ≡ look = cc in
    ap Some (ap (text_of_look k) same) ∙ ap (λ (n : ℕ). Some (text_of_look n look)) (omega arith)
look_line_at k (suc i) (first ∷ looks) look last found =
    look_line_at (suc k) i looks look last found ∙ ap (λ (n : ℕ). Some (text_of_look n look)) (omega arith)

-- the line behind those of all looks
pub last_line_at : (k i : ℕ) (looks : List Look) (last : List ℕ) → i ≡ length looks → slice_get (look_lines k looks ++ last ∷ []) i ≡ Some last
last_line_at k zero [] last all = refl
last_line_at k (suc i) [] last all = absurd (omega (arith, all))
last_line_at k zero (look ∷ looks) last all = absurd (omega (arith, all))
last_line_at k (suc i) (look ∷ looks) last all = last_line_at (suc k) i looks last (omega (arith, all))

-- how many lines there are
pub lines-count : (k : ℕ) (looks : List Look) (last : List ℕ) → length (look_lines k looks ++ last ∷ []) ≡ suc (length looks)
lines-count k [] last = refl
lines-count k (look ∷ looks) last = ap suc (lines-count (suc k) looks last)

-- how a watched run of the machine has ended
pub watched_ends : (limit : ℕ) (m : Machine) (opened book : Chronicle) (end : RunEnd) (looks : List Look) → opened.input ≡ m → opened.limit ≡ limit →
    length book.history ≤ book.limit → IsWatched opened book (end_of end) looks → HasEnded end false limit m book.history
watched_ends limit m opened book run_end.Finished looks input room fits h =
    free_ends limit m book run_end.Finished (h.input ∙ input) (h.limit ∙ room) h.run fits (λ is. h.ends.0) (λ is. absurd (cc (is)))
watched_ends limit m opened book run_end.Full looks input room fits h =
    free_ends limit m book run_end.Full (h.input ∙ input) (h.limit ∙ room) h.run fits (λ is. absurd (cc (is))) (λ is. h.ends.0)

-- and what its looks are
pub watched_looks : (opened book : Chronicle) (end : RunEnd) (looks : List Look) → IsWatched opened book (end_of end) looks → AreLooks book.history looks
watched_looks opened book run_end.Finished looks h = h.ends.1
watched_looks opened book run_end.Full looks h = h.ends.1
