-- The steps of a function that reads.
use Rattle.std.proofs.Common.{◌≡◌, ℕ, List, refl, ap, ◌∙◌}
use Rattle.std.specs.Prelude.{Result, Ok, Err, codes}
use Rattle.sched_base.specs.declared.UnitId.{UnitId}
use Rattle.sched_base.specs.Numbers.{domain}
use Rattle.sched_model.specs.declared.event.Entry.{Entry}
use Rattle.sched_print.specs.Readers.{Form, read, better_reading, word_at, number_at, ◌>>=◌}
use Rattle.sched_print.specs.Forms.{unit, unit_at}

-- of two that were read the better one
pub joined : {a b c d v : Result Entry ℕ} → v ≡ better_reading a b → a ≡ c → b ≡ d → v ≡ better_reading c d
joined {a} {b} {c} {d} {v} e p q = e ∙ ap (λ x. better_reading x b) p ∙ ap (λ y. better_reading c y) q

-- a unit is read alone, and then what follows it
pub read-unit : (f : UnitId → Form) (bytes : List ℕ) → read (unit f) bytes ≡ (unit_at bytes >>= λ x. read (f x.0) x.1)
read-unit f bytes = first (word_at (codes " d") bytes)
  where
    last : (d : ℕ) (r : Result (ℕ × List ℕ) ℕ) → (r >>= λ n. read (f (record { dom = domain d; n = n.0 })) n.1) ≡ ((r >>= λ n. Ok (record { dom = domain d; n = n.0 }, n.1)) >>= λ (x : UnitId × List ℕ). read (f x.0) x.1)
    last d (Ok n) = refl
    last d (Err left) = refl

    third : (d : ℕ) (r : Result (List ℕ) ℕ) → (r >>= λ b. number_at 0 32 b >>= λ n. read (f (record { dom = domain d; n = n.0 })) n.1) ≡ ((r >>= λ b. number_at 0 32 b >>= λ n. Ok (record { dom = domain d; n = n.0 }, n.1)) >>= λ (x : UnitId × List ℕ). read (f x.0) x.1)
    third d (Ok b) = last d (number_at 0 32 b)
    third d (Err left) = refl

    second : (r : Result (ℕ × List ℕ) ℕ) → (r >>= λ d. word_at (codes "u") d.1 >>= λ b. number_at 0 32 b >>= λ n. read (f (record { dom = domain d.0; n = n.0 })) n.1) ≡ ((r >>= λ d. word_at (codes "u") d.1 >>= λ b. number_at 0 32 b >>= λ n. Ok (record { dom = domain d.0; n = n.0 }, n.1)) >>= λ (x : UnitId × List ℕ). read (f x.0) x.1)
    second (Ok d) = third d.0 (word_at (codes "u") d.1)
    second (Err left) = refl

    first : (r : Result (List ℕ) ℕ) → (r >>= λ a. number_at 0 64 a >>= λ d. word_at (codes "u") d.1 >>= λ b. number_at 0 32 b >>= λ n. read (f (record { dom = domain d.0; n = n.0 })) n.1) ≡ ((r >>= λ a. number_at 0 64 a >>= λ d. word_at (codes "u") d.1 >>= λ b. number_at 0 32 b >>= λ n. Ok (record { dom = domain d.0; n = n.0 }, n.1)) >>= λ (x : UnitId × List ℕ). read (f x.0) x.1)
    first (Ok a) = second (number_at 0 64 a)
    first (Err left) = refl

pub after_unit : (f : UnitId → Form) (bytes : List ℕ) (u : UnitId) (rest : List ℕ) → unit_at bytes ≡ Ok (u, rest) → read (unit f) bytes ≡ read (f u) rest
after_unit f bytes u rest e = read-unit f bytes ∙ ap (λ r. r >>= λ (x : UnitId × List ℕ). read (f x.0) x.1) e
