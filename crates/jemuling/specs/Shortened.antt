-- Shortening keeps what it promises: from the equations with the definition.
use Rattle.std.specs.Prelude.{◌≡◌, refl, List, ℕ, ◌≤◌}
use Rattle.std.proofs.Common.{sym, subst, ◌∙◌}
use Rattle.std.proofs.Math.Path.{ap}
use Rattle.rules_types.specs.declared.answers.Refusal.TheVariants.{Edition as EditionRefused}
use Rattle.rules_types.specs.declared.answers.Trimmed.{Trimmed}
use Rattle.rules_types.specs.declared.limits.Limits.{Limits}
use Rattle.rules_types.specs.declared.terms.Edition.{Edition}
use Rattle.rules_types.specs.declared.terms.Edition.TheVariants.{First, Second}
use Rattle.rules_types.specs.declared.terms.Named.TheVariants.{Known}
use Rattle.rules_types.specs.declared.terms.Terms.{Terms}
use Rattle.rules_types.specs.Limits as limit
use Rattle.rules_types.specs.Answers.{refusal_number, trimmed_number, trimmed_value}
use Rattle.rules_types.specs.Terms.{on, edition_named}
use Rattle.rules.specs.Trim.{Trimming, trim, trim_in}
use Rattle.theory_bytes.specs.Bytes.{AllBytes}
use Rattle.promises.specs.Numbers.{steps-exactly, trimmed-fails-exactly, trimmed-refused-exactly}
use Rattle.promises.specs.Editions.{Other, trim-not, named-first, named-second, named_other, nineteen-exactly, trim-known, trim-unknown}
use Rattle.promises.specs.TrimmingKept.{shortens}
use Rattle.jemuling.specs.declared.told.Told.{Told}
use Rattle.jemuling.specs.Told.{trimmed_told}
use Rattle.jemuling.specs.Kept.{editions-of}
use Rattle.jemuling.specs.Promised.{TellsTrimmed, BookShortened, BookShortenedIn}

trimmed-tells : (t : Trimmed) → TellsTrimmed (trimmed_told t) t
unfolding trimmed_told
trimmed-tells t = record { steps = steps-exactly t; fails = trimmed-fails-exactly t; refused = trimmed-refused-exactly t }

module _ (input proof lent : List ℕ) (told : Told) (target : List ℕ) (are : AllBytes input) (lines : AllBytes proof)
    (left : AllBytes target) where
  tells : (says : Trimmed) → told ≡ trimmed_told says → TellsTrimmed told says
  tells says t = subst (λ (x : Told). TellsTrimmed x says) (sym t) (trimmed-tells says)

  book-shortened : (terms : Terms) → terms.limits.steps ≤ limit.most_steps → told ≡ trimmed_told (trim terms input proof lent).trimmed
      → target ≡ (trim terms input proof lent).target → BookShortened terms input proof lent told target
  book-shortened terms few t o =
      let ours = trim terms input proof lent in
      record {
        bytes = are;
        bytes_left = left;
        ours = ours;
        tells = tells ours.trimmed t;
        leaves = o;
        shortens = shortens terms few input proof lent are lines;
      }

  pub book-shortened-in : (limits : Limits) → limits.steps ≤ limit.most_steps → (edition : ℕ)
      → told ≡ trimmed_told (trim_in limits edition input proof lent).trimmed → target ≡ (trim_in limits edition input proof lent).target
      → BookShortenedIn limits edition input proof lent told target
  unfolding trimmed_told trimmed_number trimmed_value refusal_number
  book-shortened-in limits few edition t o =
      record {
        first = λ e. by First (named-first edition e);
        second = λ e. by Second (named-second edition e);
        editions = editions-of input;
        refused = nineteen-exactly edition told.number not-refused (λ h. ap (λ (x : Told). x.number) (other h).0);
        other = other;
      }
    where
      by : (e : Edition) → edition_named edition ≡ Known e → BookShortened (on limits e) input proof lent told target
      by e h = let is = trim-known limits edition input proof lent e h in
          book-shortened (on limits e) few (t ∙ ap (λ (x : Trimming). trimmed_told x.trimmed) is)
          (o ∙ ap (λ (x : Trimming). x.target) is)

      -- 19, and for no other reason
      not-refused : (e : Edition) → edition_named edition ≡ Known e → told.number ≡ 19 → ⊥
      not-refused e h n =
          let is = trim-known limits edition input proof lent e h in
          let k = tells (trim (on limits e) input proof lent).trimmed (t ∙ ap (λ (x : Trimming). trimmed_told x.trimmed) is) in
          trim-not (on limits e) input are proof lent told.value ((k.refused EditionRefused told.value).0 (n, refl))

      other : Other edition → (told ≡ record { number = 19; value = 0 }) × (target ≡ lent)
      other h = let is = trim-unknown limits edition input proof lent (named_other edition h) in (
        t ∙ ap (λ (x : Trimming). trimmed_told x.trimmed) is,
        o ∙ ap (λ (x : Trimming). x.target) is,
      )
