-- Carrying back keeps what it promises (CarriedOver.antt).
use Rattle.std.specs.Prelude.{◌≡◌, refl, List, ◌++◌, ℕ, ◌≤◌, length, take, drop}
use Rattle.std.proofs.Common.{ap, arith, length-append, length-drop, drop_at}
use Rattle.rules_types.specs.declared.answers.Refusal.{Refusal}
use Rattle.rules_types.specs.declared.answers.Refusal.TheVariants as refusal
use Rattle.rules_types.specs.declared.answers.Carried.TheVariants.{Done, Refused}
use Rattle.rules_types.specs.Limits as limit
use Rattle.rules_types.specs.declared.answers.Checked.TheVariants.{Accepted}
use Rattle.rules_types.specs.declared.answers.Converted.TheVariants.{Length}
use Rattle.rules_types.specs.declared.limits.Limits.{Limits}
use Rattle.rules_types.specs.declared.terms.Edition.TheVariants.{First, Second}
use Rattle.rules_types.specs.Terms.{on}
use Rattle.rules.specs.Problem.{Problem}
use Rattle.rules.specs.Meaning.{Assignment}
use Rattle.rules.specs.Model.{is_open, encode_model, model}
use Rattle.rules.specs.Convert.{kept, carried_back, convert, carry_back, Carrying}
use Rattle.rules.specs.Calls.{Reading, faulty, sound, read, model_checked}
use Rattle.theory_bytes.specs.Bytes.{AllBytes}
use Rattle.theory_bytes.specs.Models.{model-length}
use Rattle.theory_splitting.specs.Occurs.{open-exactly}
use Rattle.theory_conversion.specs.Carrying.{carries-done}
use Rattle.theory_conversion.specs.Kept.{kept-exactly}
use Rattle.theory_conversion.specs.Solutions.{carried-kept, carried-split}
use Rattle.theory_conversion.specs.CarriedModel.{carried-fits, carried-model}
use Rattle.theory_conversion.specs.CarriedBack.{carried-done, carried-accepted}
use Rattle.promises.specs.CarriedOver.{Subtracts, CarriesBack}
use Rattle.promises.specs.CarriedOverKept.{written, converts}
use Rattle.promises.specs.Halves.{kept-not, halves, impossible}
use Rattle.promises.specs.CarriedBackAnswers as the
use Rattle.promises.specs.CarriedBackAnswers.{Answered, over, short, bad, outside, carries}
use Rattle.promises.specs.CarriedBackRead.{field, range, done}

module _ (input bytes lent : List ℕ) (are : AllBytes input) where
  abbrev ours : Carrying
  ours = carry_back input bytes lent

  subtracts : (p : Problem) (χ : Assignment) → Subtracts p χ (carried_back (kept p) χ)
  unfolding carried_back
  subtracts p χ = record {
    booleans = refl;
    denominator = refl;
    same = λ f k. carried-kept (kept p) χ.numerators f ((kept-exactly p f).1 k);
    difference = λ f n. carried-split (kept p) χ.numerators f (kept-not p f n);
  }

  -- ---- of every problem: what is left in the target
  data Left : Type 0 where
    refused : (f : Refusal) (place : ℕ) → the.Refuses input bytes lent are f place → Left
    wrote : (new : List ℕ) → length new ≡ limit.model_bytes → limit.model_bytes ≤ length lent → ours.carried ≡ Done
        → ours.model ≡ new ++ drop limit.model_bytes lent → Left

  left : Left
  left = by (read input) refl
    where
      of : (p : Problem) (e : read input ≡ sound p) → Answered input bytes lent are p e → Left
      of p e (over h q) = refused refusal.SplitRationals 0 q
      of p e (short h k q) = refused refusal.ShortModel 0 q
      of p e (bad t place m q) = refused refusal.BadModel place q
      of p e (outside t χ s f b q) = refused refusal.CarriedRange f q
      of p e (carries t c m d) =
          let χ = carried_back (kept p) c.assignment in
          wrote (encode_model p.booleans p.rationals (is_open p) χ)
          (model-length p.booleans p.rationals (is_open p) χ (carried-fits input are bytes lent p e c)) c.room d
          (ap (λ (x : Carrying). x.model) (carries-done input bytes lent p e c))

      by : (r : Reading) → read input ≡ r → Left
      by (faulty f place) e = refused f place (the.faulty-input input bytes lent are f place e)
      by (sound p) e = of p e (the.answered input bytes lent are p e)

  beyond : drop limit.model_bytes ours.model ≡ drop limit.model_bytes lent
  beyond = by left
    where
      by : Left → drop limit.model_bytes ours.model ≡ drop limit.model_bytes lent
      by (refused f place q) = ap (drop limit.model_bytes) q.1
      by (wrote new l room d m) = rw m (drop_at new (drop limit.model_bytes lent) limit.model_bytes l)

  untouched : (f : Refusal) (place : ℕ) → ours.carried ≡ Refused f place → ours.model ≡ lent
  untouched f place a = by left
    where
      by : Left → ours.model ≡ lent
      by (refused g at q) = q.1
      by (wrote new l room d m) = impossible cc

  size : length ours.model ≡ length lent
  size = by left
    where
      by : Left → length ours.model ≡ length lent
      by (refused f place q) = ap length q.1
      by (wrote new l room d m) = rw (m, length-append, length-drop) (omega arith)

  accepted : (limits : Limits) (out : List ℕ) (n : ℕ) → (convert input out).converted ≡ Length n
      → model_checked (on limits Second) (take n (convert input out).output) bytes ≡ Accepted → limit.model_bytes ≤ length lent
      → (ours.carried ≡ Done) × (model_checked (on limits First) input ours.model ≡ Accepted)
  accepted limits out n a m room = by (read input) refl
    where
      by : (r : Reading) → read input ≡ r → (ours.carried ≡ Done) × (model_checked (on limits First) input ours.model ≡ Accepted)
      by (faulty f place) e = let b = (converts input out are).faulty_input f place e in impossible cc
      by (sound p) e = let k = rw (written input out are p e n a) at m in
          (carried-done limits input are p e bytes lent k room, carried-accepted limits input are p e bytes lent k room)

  pub carries-back : CarriesBack input bytes lent ours
  carries-back = record {
    faulty_input = λ f place e. (the.faulty-input input bytes lent are f place e).0;
    halves = λ p e. halves p;
    opens = open-exactly;
    split = the.split input bytes lent are;
    short = the.too_short input bytes lent are;
    field = field input bytes lent are;
    range = range input bytes lent are;
    done = done input bytes lent are;
    subtracts = subtracts;
    model = λ p e. carried-model input are bytes lent p e;
    beyond = beyond;
    untouched = untouched;
    size = size;
    accepted = accepted;
  }
