-- Two runs in step: what follows for blocks and loops from their statements.
use Rattle.std.proofs.Common.{◌≡◌, ℕ, zero, suc, Bool, true, false, List, [], ◌∷◌, ◌++◌, append_assoc, map, refl, sym, ◌∙◌, if◌then◌else◌}
use Rattle.vd_semantics.specs.ProgramMeaning.{SlotState, in_order}
use Rattle.vd_semantics.specs.Turns.{turns}
use Rattle.vd_noninter.specs.Flowing.{Knowledge}
use Rattle.vd_noninter.specs.Agreement.{Agree}
use Rattle.vd_noninter.specs.Watching.{Watched, run_of, given_by, freed_by, shown_by, words_in_order, words_of_turns}

module _ (k : Knowledge) where
  pub agree_refl : (s : SlotState) → Agree k s s
  agree_refl s = record { words = λ x is. refl; arrays = λ x is. refl; inputs = λ host is i. refl; hosts = refl; outputs = λ host is. refl }

  pub agree_sym : (s t : SlotState) → Agree k s t → Agree k t s
  agree_sym s t a = record {
    words = λ x is. sym (a.words x is);
    arrays = λ x is. sym (a.arrays x is);
    inputs = λ host is i. sym (a.inputs host is i);
    hosts = sym a.hosts;
    outputs = λ host is. sym (a.outputs host is);
  }

  pub agree_trans : (s t u : SlotState) → Agree k s t → Agree k t u → Agree k s u
  agree_trans s t u a b = record {
    words = λ x is. a.words x is ∙ b.words x is;
    arrays = λ x is. a.arrays x is ∙ b.arrays x is;
    inputs = λ host is i. a.inputs host is i ∙ b.inputs host is i;
    hosts = a.hosts ∙ b.hosts;
    outputs = λ host is. a.outputs host is ∙ b.outputs host is;
  }

  -- two runs have given, freed and shown the same, what they have still to give is the same, and their states agree
  pub record InStep (words words' free free' sight sight' left left' : List ℕ) (s t : SlotState) : Type 0 where
    pub given : words ≡ words'
    pub freed : free ≡ free'
    pub shown : sight ≡ sight'
    pub rest : left ≡ left'
    pub agree : Agree k s t

  -- from states that agree, if all that is given is the same, the runs stay in step
  abbrev pub Seen : Watched → Type 0
  Seen w =
      (turn : ℕ) (s t : SlotState) (rest rest' : List ℕ) → Agree k s t → w.given turn s ++ rest ≡ w.given turn t ++ rest'
      → InStep (w.given turn s) (w.given turn t) (w.freed turn s) (w.freed turn t) (w.shown turn s) (w.shown turn t) rest rest' (w.run turn s) (w.run turn t)

  -- a run gives and frees nothing, and changes nothing that is kept
  pub record Still (w : Watched) (turn : ℕ) (s : SlotState) : Type 0 where
    pub silent : w.given turn s ≡ []
    pub closed : w.freed turn s ≡ []
    pub agree : Agree k s (w.run turn s)

  abbrev pub Unseen : Watched → Type 0
  Unseen w = (turn : ℕ) (s : SlotState) → Still w turn s

  abbrev pub block : List Watched → Watched
  block ws = record { run = in_order (map run_of ws); given = words_in_order given_by ws; freed = words_in_order freed_by ws; shown = words_in_order shown_by ws }

  abbrev pub loop : ℕ → List Watched → Watched
  loop n ws = record {
    run = λ turn s. turns n (in_order (map run_of ws)) s;
    given = λ turn s. words_of_turns n given_by ws s;
    freed = λ turn s. words_of_turns n freed_by ws s;
    shown = λ turn s. words_of_turns n shown_by ws s;
  }

  both_words : (a a' b b' : List ℕ) → a ≡ a' → b ≡ b' → a ++ b ≡ a' ++ b'
  both_words a a' b b' e f = rw (e, f) refl

  -- one run after another
  then_step : (w v : Watched) (turn turn' : ℕ) (s t : SlotState) (rest rest' : List ℕ) → Seen w → Seen v → Agree k s t
      → (w.given turn s ++ v.given turn' (w.run turn s)) ++ rest ≡ (w.given turn t ++ v.given turn' (w.run turn t)) ++ rest'
      → InStep (w.given turn s ++ v.given turn' (w.run turn s)) (w.given turn t ++ v.given turn' (w.run turn t))
      (w.freed turn s ++ v.freed turn' (w.run turn s)) (w.freed turn t ++ v.freed turn' (w.run turn t)) (w.shown turn s ++ v.shown turn' (w.run turn s)) (w.shown turn t ++ v.shown turn' (w.run turn t)) rest rest' (v.run turn' (w.run turn s)) (v.run turn' (w.run turn t))
  then_step w v turn turn' s t rest rest' first second agree given =
      let one =
      first turn s t (v.given turn' (w.run turn s) ++ rest) (v.given turn' (w.run turn t) ++ rest') agree
      (sym (append_assoc (w.given turn s) (v.given turn' (w.run turn s)) rest) ∙ given ∙ append_assoc (w.given turn t) (v.given turn' (w.run turn t)) rest')
      in
      let two = second turn' (w.run turn s) (w.run turn t) rest rest' one.agree one.rest in
      record {
        given = both_words (w.given turn s) (w.given turn t) (v.given turn' (w.run turn s)) (v.given turn' (w.run turn t)) one.given two.given;
        freed = both_words (w.freed turn s) (w.freed turn t) (v.freed turn' (w.run turn s)) (v.freed turn' (w.run turn t)) one.freed two.freed;
        shown = both_words (w.shown turn s) (w.shown turn t) (v.shown turn' (w.run turn s)) (v.shown turn' (w.run turn t)) one.shown two.shown;
        rest = two.rest;
        agree = two.agree;
      }

  pub seen_none : Seen (block [])
  seen_none turn s t rest rest' agree given = record { given = refl; freed = refl; shown = refl; rest = given; agree = agree }

  pub seen_more : (w : Watched) (ws : List Watched) → Seen w → Seen (block ws) → Seen (block (w ∷ ws))
  seen_more w ws first second turn s t rest rest' agree given = then_step w (block ws) turn turn s t rest rest' first second agree given

  pub seen_loop : (n : ℕ) (ws : List Watched) → Seen (block ws) → Seen (loop n ws)
  seen_loop zero ws body turn s t rest rest' agree given = record { given = refl; freed = refl; shown = refl; rest = given; agree = agree }
  seen_loop (suc n) ws body turn s t rest rest' agree given = then_step (loop n ws) (block ws) turn n s t rest rest' (seen_loop n ws body) body agree given

  -- ---- where control is not kept
  then_still : (w v : Watched) (turn turn' : ℕ) (s : SlotState) → Unseen w → Unseen v
      → (w.given turn s ++ v.given turn' (w.run turn s) ≡ []) × (w.freed turn s ++ v.freed turn' (w.run turn s) ≡ []) × Agree k s (v.run turn' (w.run turn s))
  then_still w v turn turn' s first second =
      let one = first turn s in
      let two = second turn' (w.run turn s) in
      (both_words (w.given turn s) [] (v.given turn' (w.run turn s)) [] one.silent two.silent, both_words (w.freed turn s) [] (v.freed turn' (w.run turn s)) [] one.closed two.closed, agree_trans s (w.run turn s) (v.run turn' (w.run turn s)) one.agree two.agree)

  pub unseen_none : Unseen (block [])
  unseen_none turn s = record { silent = refl; closed = refl; agree = agree_refl s }

  pub unseen_more : (w : Watched) (ws : List Watched) → Unseen w → Unseen (block ws) → Unseen (block (w ∷ ws))
  unseen_more w ws first second turn s = let p = then_still w (block ws) turn turn s first second in record { silent = p.0; closed = p.1; agree = p.2 }

  pub unseen_loop : (n : ℕ) (ws : List Watched) → Unseen (block ws) → Unseen (loop n ws)
  unseen_loop zero ws body turn s = record { silent = refl; closed = refl; agree = agree_refl s }
  unseen_loop (suc n) ws body turn s = let p = then_still (loop n ws) (block ws) turn n s (unseen_loop n ws body) body in record { silent = p.0; closed = p.1; agree = p.2 }

  -- ---- branches
  abbrev pub branch : Bool → List Watched → List Watched → Watched
  branch c a b = record {
    run = in_order (if c then map run_of b else map run_of a);
    given = words_in_order given_by (if c then b else a);
    freed = words_in_order freed_by (if c then b else a);
    shown = words_in_order shown_by (if c then b else a);
  }

  pub unseen_branch : (c : Bool) (a b : List Watched) → Unseen (block a) → Unseen (block b) → Unseen (branch c a b)
  unseen_branch true a b first second = second
  unseen_branch false a b first second = first
