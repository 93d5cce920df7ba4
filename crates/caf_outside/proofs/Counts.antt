-- How often a name stands in a list that grew by one.
use Rattle.std.proofs.Common.{subst, Result, Err, ◌≡◌, ◌≢◌, ℕ, ◌+◌, Bool, true, false, List, [], ◌∷◌, ◌++◌, refl, sym, arith}
use Rattle.std.specs.Str.{bytes_eq}
use Rattle.std.proofs.lemmas.Slice.Eq.{bytes_eq-Decides}
use Rattle.std.proofs.lemmas.Grind.{common_steps}
use Rattle.caf_outside.specs.Causes.{HasLoadCause}
use Rattle.caf_outside.specs.Texts.{times}
use Rattle.caf_outside.specs.declared.fault.LoadFail.{LoadFail}
use Rattle.caf_outside.specs.declared.fault.LoadFail.TheVariants as fail

pub bytes_eq-same : (name : List ℕ) → bytes_eq name name ≡ true
bytes_eq-same name = (bytes_eq-Decides name name).1 refl

pub bytes_eq-other : (name other : List ℕ) → other ≢ name → bytes_eq name other ≡ false
bytes_eq-other name other apart =
    elim (bytes_eq name other) as (λ b. bytes_eq name other ≡ b → b ≡ false) [ true ↦ λ e. absurd (apart (sym ((bytes_eq-Decides name other).0 e))) | false ↦ λ e. refl ] refl

times-append-same : (names : List (List ℕ)) (name : List ℕ) → times (names ++ name ∷ []) name ≡ times names name + 1
times-append-same names name = grind (arith, common_steps, bytes_eq-same name)

times-append-other : (names : List (List ℕ)) (name other : List ℕ) → other ≢ name → times (names ++ name ∷ []) other ≡ times names other
times-append-other names name other apart = grind (arith, common_steps, bytes_eq-other name other apart)

-- a failure more under a name is a cause to fail a load of it
append_is_cause : {T : Type 0} (names : List (List ℕ)) (name : List ℕ) → HasLoadCause {T = T} (times names) (times (names ++ name ∷ [])) name (Err fail.Failed)
append_is_cause names name = record {
  later = omega (arith, times-append-same names name);
  failed = λ _. omega (arith, times-append-same names name);
  loaded = tt;
  refused = λ e. cc;
  others = λ other apart. times-append-other names name other apart;
}

-- the same of lists and a name that are equal to them
pub append_is_cause_at : {T : Type 0} (old new names : List (List ℕ)) (name own_name : List ℕ) (result : Result T LoadFail) → names ≡ old → own_name ≡ name → new ≡ names ++ own_name ∷ [] → result ≡ Err fail.Failed → HasLoadCause (times old) (times new) name result
append_is_cause_at {T} old new names name own_name result same_names same_name grown refused =
    let Causes : List (List ℕ) → List ℕ → Type 0 = λ x y. HasLoadCause {T = T} (times x) (times (names ++ own_name ∷ [])) y (Err fail.Failed) in
    let here : Causes old name = subst (λ x. Causes x name) same_names (subst (λ y. Causes names y) same_name (append_is_cause names own_name)) in
    rw (grown, refused) here
