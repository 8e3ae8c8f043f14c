-- Functions and what names hold, found by name.
use Rattle.std.proofs.Common.{◌≡◌, ℕ, zero, suc, ◌+◌, ◌<◌, true, false, List, [], ◌∷◌, ◌++◌, length, get_or, take, Some, None, refl, sym, ap, ◌∙◌, append-nil, append_assoc, suc-add, unwrap_or, arith, bytes_eq}
use Rattle.vd_core.specs.declared.source.Function.{Function}
use Rattle.vd_semantics.specs.declared.held.Held.{Held}
use Rattle.vd_semantics.specs.World.{World}
use Rattle.vd_base.specs.Names.{Named, at_name, changed}
use Rattle.vd_base.proofs.Front.{at_append, changed_none}
use Rattle.vd_semantics.specs.Functions.{in_text_order}
use Rattle.vd_semantics.specs.SourceMeaning.{State, left_block}
use Rattle.vd_semantics.specs.Wraps.{Scene, Watched, left_scene, scene}

module _ {A : Type 0} (make : Function → Named A → A) where
  -- what the functions add stands behind
  front : (es : Named A) (fs : List Function) → (more : Named A) × (in_text_order make es fs ≡ es ++ more)
  front es [] = ([], sym (append-nil es))
  front es (f ∷ fs) =
      let r = front (es ++ (f.name.name, make f es) ∷ []) fs in
      ((f.name.name, make f es) ∷ r.0, r.1 ∙ append_assoc es ((f.name.name, make f es) ∷ []) r.0)

  split : (es : Named A) (fs : List Function) (k : ℕ) (d : Function) → k < length fs
      → (more : Named A) × (in_text_order make es fs ≡ in_text_order make es (take k fs) ++ ((get_or fs k d).name.name, make (get_or fs k d) (in_text_order make es (take k fs))) ∷ more)
  split es [] k d lt = absurd (omega arith)
  split es (f ∷ fs) zero d lt =
      let r = front (es ++ (f.name.name, make f es) ∷ []) fs in
      (r.0, r.1 ∙ append_assoc es ((f.name.name, make f es) ∷ []) r.0)
  split es (f ∷ fs) (suc k) d lt = split (es ++ (f.name.name, make f es) ∷ []) fs k d (omega arith)

  take_more : (es : Named A) (fs : List Function) (k : ℕ) (d : Function) → k < length fs
      → in_text_order make es (take (k + 1) fs) ≡ in_text_order make es (take k fs) ++ ((get_or fs k d).name.name, make (get_or fs k d) (in_text_order make es (take k fs))) ∷ []
  take_more es [] k d lt = absurd (omega arith)
  take_more es (f ∷ fs) zero d lt = refl
  take_more es (f ∷ fs) (suc k) d lt = rw suc-add (take_more (es ++ (f.name.name, make f es) ∷ []) fs k d (omega arith))

  -- the first function with the name is at k
  pub function_here : (fs : List Function) (k : ℕ) (d : Function) (x : List ℕ) → k < length fs → at_name (in_text_order make [] (take k fs)) x ≡ None → bytes_eq (get_or fs k d).name.name x ≡ true
      → at_name (in_text_order make [] fs) x ≡ Some (make (get_or fs k d) (in_text_order make [] (take k fs)))
  function_here fs k d x lt none is =
      let r = split [] fs k d lt in
      ap (λ (z : Named A). at_name z x) r.1 ∙ at_append (in_text_order make [] (take k fs)) (((get_or fs k d).name.name, make (get_or fs k d) (in_text_order make [] (take k fs))) ∷ r.0) x none ∙ rw is refl

  -- one function more without the name
  pub function_not_here : (fs : List Function) (k : ℕ) (d : Function) (x : List ℕ) → k < length fs → at_name (in_text_order make [] (take k fs)) x ≡ None → bytes_eq (get_or fs k d).name.name x ≡ false
      → at_name (in_text_order make [] (take (k + 1) fs)) x ≡ None
  function_not_here fs k d x lt none is =
      ap (λ (z : Named A). at_name z x) (take_more [] fs k d lt) ∙ at_append (in_text_order make [] (take k fs)) (((get_or fs k d).name.name, make (get_or fs k d) (in_text_order make [] (take k fs))) ∷ []) x none ∙ rw is refl

first_changed : {A : Type 0} (e : List ℕ × A) (es : Named A) (f : A → A) (x : List ℕ) → bytes_eq e.0 x ≡ true → changed f x (e ∷ es) ≡ (e.0, f e.1) ∷ es
first_changed e es f x is = rw is refl

later_changed : {A : Type 0} (e : List ℕ × A) (es : Named A) (f : A → A) (x : List ℕ) → bytes_eq e.0 x ≡ false → changed f x (e ∷ es) ≡ e ∷ changed f x es
later_changed e es f x is = rw is refl

first_found : {A : Type 0} (e : List ℕ × A) (es : Named A) (x : List ℕ) → bytes_eq e.0 x ≡ true → at_name (e ∷ es) x ≡ Some e.1
first_found e es x is = rw is refl

later_found : {A : Type 0} (e : List ℕ × A) (es : Named A) (x : List ℕ) → bytes_eq e.0 x ≡ false → at_name (e ∷ es) x ≡ at_name es x
later_found e es x is = rw is refl

some_same : {A : Type 0} (a b : A) → Some a ≡ Some b → a ≡ b
some_same a b e = ap (λ o. unwrap_or o a) e

-- what a name holds is taken out, changed and put back
put_back : (es : Named Held) (out : Held) (f : Held → Held) (x : List ℕ) (h : Held) → Some h ≡ at_name es x → changed (λ z. f h) x (changed (λ z. out) x es) ≡ changed f x es
put_back [] out f x h is = refl
put_back (e ∷ es) out f x h is =
    (elim (bytes_eq e.0 x) as (λ b. bytes_eq e.0 x ≡ b → changed (λ z. f h) x (changed (λ z. out) x (e ∷ es)) ≡ changed f x (e ∷ es)) [
      | true ↦ λ eq.
          ap (λ (z : Named Held). changed (λ z. f h) x z) (first_changed e es (λ z. out) x eq) ∙ first_changed (e.0, out) es (λ z. f h) x eq
          ∙ ap (λ (z : Held). (e.0, f z) ∷ es) (some_same h e.1 (is ∙ first_found e es x eq)) ∙ sym (first_changed e es f x eq)
      | false ↦ λ eq.
          ap (λ (z : Named Held). changed (λ z. f h) x z) (later_changed e es (λ z. out) x eq) ∙ later_changed e (changed (λ z. out) x es) (λ z. f h) x eq
          ∙ ap (λ (z : Named Held). e ∷ z) (put_back es out f x h (is ∙ later_found e es x eq)) ∙ sym (later_changed e es f x eq)
    ]) refl

pub put_back_is : (es es1 es2 : Named Held) (out h h' : Held) (f : Held → Held) (x : List ℕ) → Some h ≡ at_name es x → es1 ≡ changed (λ z. out) x es → h' ≡ f h → es2 ≡ changed (λ z. h') x es1
    → es2 ≡ changed f x es
put_back_is es es1 es2 out h h' f x is first new second =
    second ∙ ap (λ (z : Named Held). changed (λ z. h') x z) first ∙ ap (λ (g : Held). changed (λ z. g) x (changed (λ z. out) x es)) new ∙ put_back es out f x h is

-- a name that is not in sight
pub not_changed : (es : Named Held) (f g : Held → Held) (x : List ℕ) → None ≡ at_name es x → changed g x es ≡ changed f x es
not_changed es f g x none = changed_none es g x (sym none) ∙ sym (changed_none es f x (sym none))

-- the names of a block go
pub block_left : (before after now : Named Held) (n : ℕ) (u w : World) (t : State) → n ≡ length before → now ≡ take n after → ◌≡◌ {A = State} (record { env = after; world = w }) t
    → ◌≡◌ {A = State} (record { env = now; world = w }) (left_block (record { env = before; world = u }) t)
block_left before after now n u w t len cut is =
    ap (λ (z : Named Held). let s : State = record { env = z; world = w } in s) (cut ∙ ap (λ k. take k after) len)
    ∙ ap (left_block (record { env = before; world = u })) is

-- the same where the world is watched
pub block_left_watched : (before after now : Named Held) (n : ℕ) (u w : Watched) (t : Scene) → n ≡ length before → now ≡ take n after → ◌≡◌ {A = Scene} (scene after w) t
    → ◌≡◌ {A = Scene} (scene now w) (left_scene (scene before u) t)
block_left_watched before after now n u w t len cut is =
    ap (λ (z : Named Held). let s : Scene = scene z w in s) (cut ∙ ap (λ k. take k after) len)
    ∙ ap (left_scene (scene before u)) is
