-- The domains of a pool fit what its scheduler keeps of them.
use Rattle.std.proofs.Common.{◌≡◌, ℕ, List, [], ◌∷◌, length, ◌≤◌}
use Rattle.std.specs.Prelude.{Option, Some, None, option_map}
use Rattle.sched_model.specs.Places.{at_place}
use Rattle.sched_model.specs.declared.config.DomParams.{DomParams}
use Rattle.sched_model.specs.declared.config.DomParams.TheVariants as dom_params
use Rattle.sched_model.specs.declared.state.RtdsUnit.{RtdsUnit}
use Rattle.sched_model.specs.declared.state.Credit2Domain.{Credit2Domain}
use Rattle.sched_model.specs.declared.state.Credit2Records.{Credit2Records}
use Rattle.sched_model.specs.declared.state.Records.{Records}
use Rattle.sched_model.specs.declared.state.Records.TheVariants.{Credit2Pool, RtdsPool, ArincPool, NullPool}
use Rattle.sched_model.specs.declared.state.Domain.{Domain}
use Rattle.sched_model.specs.declared.state.Pool.{Pool}
use Rattle.sched_model.specs.Pool.{domain_unit_count}
use Rattle.sched_laws.specs.EachPlace.{EachAt, EachPlace}

abbrev pub measures_of : {X : Type 0} → (X → ℕ) → List (Option X) → List (Option ℕ)
measures_of measure [] = []
measures_of measure (o ∷ places) = option_map measure o ∷ measures_of measure places

abbrev pub units_in : Credit2Domain → ℕ
units_in d = length d.units

abbrev pub credit2_counts : Credit2Records → List (Option ℕ)
credit2_counts records = measures_of units_in records.domains

abbrev pub rtds_counts : List (Option (List RtdsUnit)) → List (Option ℕ)
rtds_counts domains = measures_of length domains

abbrev pub shape : Records → Option (List (Option ℕ))
shape (Credit2Pool records) = Some (credit2_counts records)
shape (RtdsPool domains) = Some (rtds_counts domains)
shape (ArincPool records) = None
shape (NullPool kept) = None

-- there is a place for each domain, and at it the count of its units; there is no count where no domain is
pub record HasCounts (g : ℕ) (domains : List (Option Domain)) (counts : List (Option ℕ)) : Type 0 where
  pub places : length counts ≡ length domains
  pub counts_are : EachAt (λ d (x : Domain). at_place counts d ≡ Some (domain_unit_count g x)) domains
  pub others : (d : ℕ) → at_place domains d ≡ None → at_place counts d ≡ None

abbrev pub CountsFit : ℕ → List (Option Domain) → Option (List (Option ℕ)) → Type 0
CountsFit g domains None = Unit {0}
CountsFit g domains (Some counts) = HasCounts g domains counts

-- the same, and each domain has a unit
pub record Keeps (g : ℕ) (domains : List (Option Domain)) (counts : Option (List (Option ℕ))) : Type 0 where
  pub some_unit : EachPlace (λ (x : Domain). 1 ≤ domain_unit_count g x) domains
  pub fit : CountsFit g domains counts

abbrev pub KeepsPool : ℕ → Pool → Type 0
KeepsPool g pool = Keeps g pool.domains (shape pool.scheduler.records)

-- the parameters of a domain are those of the scheduler, where it keeps records
abbrev pub Matches : Records → DomParams → Type 0
Matches (Credit2Pool records) (dom_params.Credit2 weight percent) = Unit {0}
Matches (Credit2Pool records) (dom_params.Rtds period budget extra) = ⊥
Matches (Credit2Pool records) dom_params.Arinc653 = ⊥
Matches (Credit2Pool records) dom_params.Null = ⊥
Matches (RtdsPool domains) (dom_params.Credit2 weight percent) = ⊥
Matches (RtdsPool domains) (dom_params.Rtds period budget extra) = Unit {0}
Matches (RtdsPool domains) dom_params.Arinc653 = ⊥
Matches (RtdsPool domains) dom_params.Null = ⊥
Matches (ArincPool records) params = Unit {0}
Matches (NullPool kept) params = Unit {0}
