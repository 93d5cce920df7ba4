-- Where a list of choices leads.
use Rattle.std.proofs.lemmas.List.{take_more}
use Rattle.std.proofs.Common.{◌≡◌, ℕ, ◌+◌, ◌<◌, ◌++◌, List, [], ◌∷◌, Option, Some, ap, arith, get_or, length, refl, subst, sym, ◌∙◌, take}
use Rattle.caf_program.specs.declared.program.Program.{Program}
use Rattle.caf_source.specs.Certified.{IsLed}
use Rattle.caf_source.specs.declared.choice.Choice.{Choice}
use Rattle.caf_source.specs.declared.stepped.Stepped.{Stepped}
use Rattle.caf_source.specs.declared.stepped.Stepped.TheVariants as stepped
use Rattle.caf_source.specs.Kept.{CanGoOn, Kept, Made}
use Rattle.caf_source.specs.Next.{next}
use Rattle.caf_source.specs.Run.{state_after, state_from, then_next}
use Rattle.caf_source.specs.State.{State, first}

both : (p : Program) (s : Option State) (xs ys : List Choice) → state_from p s (xs ++ ys) ≡ state_from p (state_from p s xs) ys
both p s [] ys = refl
both p s (c ∷ xs) ys = both p (then_next p s c) xs ys

-- one choice more
pub one_more : (p : Program) (images : ℕ) (xs : List Choice) (c : Choice) (s t : State) → state_after p images xs ≡ Some s → next p s c ≡ Some t → state_after p images (xs ++ c ∷ []) ≡ Some t
one_more p images xs c s t led is = both p (Some (first p images)) xs (c ∷ []) ∙ ap (λ o. then_next p o c) led ∙ is

-- the same of a call that has made it
pub led_more : (p : Program) (images at : ℕ) (xs : List Choice) (d : Choice) (k after : Kept) (r : Stepped) → r ≡ stepped.Done → at < length xs → IsLed p images (take at xs) k → Made p (get_or xs at d) k after r → CanGoOn after → IsLed p images (take (at + 1) xs) after
led_more p images at xs d k after r is within so_far made ready = subst (λ l. IsLed p images l after) (sym (take_more xs at d within)) (record {
  led = one_more p images (take at xs) (get_or xs at d) k.state after.state so_far.led done.state;
  done = done.count ∙ ap (λ n. n + 1) so_far.done ∙ sym (length_more (take at xs) (get_or xs at d));
  ready = ready;
})
  where
    done : Made p (get_or xs at d) k after stepped.Done
    done = subst (λ x. Made p (get_or xs at d) k after x) is made

    length_more : (l : List Choice) (x : Choice) → length (l ++ x ∷ []) ≡ length l + 1
    length_more [] x = refl
    length_more (y ∷ l) x = omega (arith, length_more l x)
