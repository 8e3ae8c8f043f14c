-- How long packets are.
use Rattle.std.proofs.Common.{◌≡◌, ◌≢◌, ◌⊎◌, inl, inr, ℕ, zero, suc, nat_eq, ◌&&◌, Bool, true, false, if◌then◌else◌, List, [], ◌∷◌, ◌++◌, length, refl, sym, ap, ap₂, subst, ◌∙◌}
use Rattle.std.proofs.lemmas.Bool.Decides.{eqb_tells}
use Rattle.vd_base.specs.Holders.{proto_in}
use Rattle.vd_execution.specs.declared.instructions.Reg.{Reg}
use Rattle.vd_execution.specs.Step.{words_in}
use Rattle.vd_execution.specs.World.{World, Tape, IsPrefixOf, AllEnded, followed_by_zeros}
use Rattle.vd_execution.specs.Joint.{Part, Joint, Done, Do, Msg, If, For, Hosts, after_do, after_msg, is_other, turn_begun, turns, joint, fresh, IsTidy}
use Rattle.vd_execution.specs.Claims.{RunsWell, IsOnTheWay, reached, last_of}
use Rattle.vd_execution.proofs.Front.{on_the_way}
use Rattle.vd_backend_laws.specs.Whole.{code_at}
use Rattle.vd_projection.proofs.Front.{assignments_tell_the_same}
use Rattle.vd_views.specs.Views.{BothTurns}
use Rattle.vd_views.specs.OnTheWay.{IsSilent, BranchesAreSilent, lengths, so_often, lengths_in, LengthsFollowCode, LengthsFollowPrograms, GoTheSameWay, AreAsLong, LengthsTellWays}
use Rattle.vd_views.proofs.Alike.{do_told, msg_told, msg_told_other}
use Rattle.vd_views.proofs.Blocks.{begun_told, turns_keep}

-- ---- lists

lengths_append : (xs ys : List (List ℕ)) → lengths (xs ++ ys) ≡ lengths xs ++ lengths ys
lengths_append [] ys = refl
lengths_append (x ∷ xs) ys = ap (λ (r : List ℕ). length x ∷ r) (lengths_append xs ys)

joins : (xs ys zs : List ℕ) → (xs ++ ys) ++ zs ≡ xs ++ (ys ++ zs)
joins [] ys zs = refl
joins (x ∷ xs) ys zs = ap (λ (r : List ℕ). x ∷ r) (joins xs ys zs)

nothing_behind : (xs : List ℕ) → xs ++ [] ≡ xs
nothing_behind [] = refl
nothing_behind (x ∷ xs) = ap (λ (r : List ℕ). x ∷ r) (nothing_behind xs)

prefix_lengths : (xs ys : List (List ℕ)) → IsPrefixOf xs ys → IsPrefixOf (lengths xs) (lengths ys)
prefix_lengths xs ys p = (lengths p.0, sym (lengths_append xs p.0) ∙ ap (λ (r : List (List ℕ)). lengths r) p.1)

words_length : (f : ℕ → ℕ) (rs : List Reg) → length (words_in f rs) ≡ length rs
words_length f [] = refl
words_length f (r ∷ rs) = ap (λ (n : ℕ). suc n) (words_length f rs)

-- ---- one act

-- a message adds its packet to those of its sender to its receiver, and no other
abbrev added : ℕ → ℕ → ℕ → List Reg → ℕ → List ℕ
added a b from said to = if nat_eq a from && nat_eq b to then length said ∷ [] else []

added_there : (a b from to : ℕ) (said : List Reg) → nat_eq a from ≡ true → nat_eq b to ≡ true → added a b from said to ≡ length said ∷ []
added_there a b from to said e f = ap₂ (λ (p q : Bool). if p && q then length said ∷ [] else []) e f

added_from : (a b from to : ℕ) (said : List Reg) → nat_eq a from ≡ false → added a b from said to ≡ []
added_from a b from to said e = ap (λ (p : Bool). if p && nat_eq b to then length said ∷ [] else []) e

added_to : (a b from to : ℕ) (said : List Reg) → nat_eq b to ≡ false → added a b from said to ≡ []
added_to a b from to said e = at (nat_eq a from) (nat_eq b to) e
  where
    at : (p q : Bool) → q ≡ false → (if p && q then length said ∷ [] else []) ≡ []
    at true true e = cc
    at true false e = refl
    at false q e = refl

module _ (from : ℕ) (said : List Reg) (to : ℕ) (heard : List Reg) (w : Hosts) (apart : from ≢ to) where
  sent_there : lengths ((after_msg from said to heard w from).sent to) ≡ lengths ((w from).sent to) ++ length said ∷ []
  sent_there =
      ap (λ (r : List (List ℕ)). lengths r) (msg_told from said to heard w apart)
      ∙ lengths_append ((w from).sent to) (words_in (w from).registers said ∷ [])
      ∙ ap (λ (n : ℕ). lengths ((w from).sent to) ++ n ∷ []) (words_length (w from).registers said)

  sent_elsewhere : (a b : ℕ) → (a ≢ from) ⊎ (b ≢ to) → added a b from said to ≡ [] → lengths ((after_msg from said to heard w a).sent b) ≡ lengths ((w a).sent b) ++ added a b from said to
  sent_elsewhere a b other none =
      ap (λ (r : List (List ℕ)). lengths r) (msg_told_other from said to heard b w apart a other)
      ∙ sym (nothing_behind (lengths ((w a).sent b))) ∙ ap (λ (r : List ℕ). lengths ((w a).sent b) ++ r) (sym none)

  msg_lengths : (a b : ℕ) → lengths ((after_msg from said to heard w a).sent b) ≡ lengths ((w a).sent b) ++ added a b from said to
  msg_lengths a b = at (eqb_tells a from) (eqb_tells b to)
    where
      at : ((nat_eq a from ≡ true) × (a ≡ from)) ⊎ ((nat_eq a from ≡ false) × (a ≢ from)) → ((nat_eq b to ≡ true) × (b ≡ to)) ⊎ ((nat_eq b to ≡ false) × (b ≢ to))
          → lengths ((after_msg from said to heard w a).sent b) ≡ lengths ((w a).sent b) ++ added a b from said to
      at (inr e) f = sent_elsewhere a b (inl e.1) (added_from a b from to said e.0)
      at (inl e) (inr f) = sent_elsewhere a b (inr f.1) (added_to a b from to said f.0)
      at (inl e) (inl f) =
          let P : ℕ → Type 0 = λ x. lengths ((after_msg from said to heard w x).sent b) ≡ lengths ((w x).sent b) ++ length said ∷ [] in
          let Q : ℕ → Type 0 = λ x. lengths ((after_msg from said to heard w from).sent x) ≡ lengths ((w from).sent x) ++ length said ∷ [] in
          subst P (sym e.1) (subst Q (sym f.1) sent_there) ∙ ap (λ (r : List ℕ). lengths ((w a).sent b) ++ r) (sym (added_there a b from to said e.0 f.0))

-- ---- where nobody sends

either_sent : (a b : ℕ) (c : Bool) (w x y : Hosts) → (x a).sent b ≡ (w a).sent b → (y a).sent b ≡ (w a).sent b → ((if c then x else y) a).sent b ≡ (w a).sent b
either_sent a b true w x y e f = e
either_sent a b false w x y e f = f

silent_keeps : (t : Tape) (a b : ℕ) (j : Joint) → IsSilent j → (w : Hosts) → (joint t j w a).sent b ≡ (w a).sent b
silent_keeps t a b Done q w = refl
silent_keeps t a b (Do h x rest) q w = silent_keeps t a b rest q (after_do t h x w) ∙ do_told t h x b w a
silent_keeps t a b (Msg from said to heard rest) q w = absurd q
silent_keeps t a b (If ps first other rest) q w =
    silent_keeps t a b rest q.1.1 (if is_other ps w then joint t other w else joint t first w)
    ∙ either_sent a b (is_other ps w) w (joint t other w) (joint t first w) (silent_keeps t a b other q.1.0 w) (silent_keeps t a b first q.0 w)
silent_keeps t a b (For ps count body rest) q w =
    silent_keeps t a b rest q.1 (turns (λ i v. joint t body (turn_begun ps i v)) count 0 w)
    ∙ turns_keep (λ v. (v a).sent b) (λ i v. joint t body (turn_begun ps i v)) (λ i v. silent_keeps t a b body q.0 (turn_begun ps i v) ∙ begun_told ps i b v a) count 0 w

-- ---- where nobody sends in a branch

begun_lengths : (ps : List Part) (i a b : ℕ) (w : Hosts) → lengths ((turn_begun ps i w a).sent b) ≡ lengths ((w a).sent b)
begun_lengths ps i a b w = ap (λ (r : List (List ℕ)). lengths r) (begun_told ps i b w a)

then_more : (was now xs ys : List ℕ) (end : List ℕ) → now ≡ was ++ xs → end ≡ now ++ ys → end ≡ was ++ (xs ++ ys)
then_more was now xs ys end e f = f ∙ ap (λ (r : List ℕ). r ++ ys) e ∙ joins was xs ys

module _ (t : Tape) (a b : ℕ) where
  abbrev here : Hosts → List ℕ
  here w = lengths ((w a).sent b)

  turn_lengths : (turn : ℕ → Hosts → Hosts) (xs : List ℕ) → ((i : ℕ) (v : Hosts) → here (turn i v) ≡ here v ++ xs) → (n i : ℕ) (w : Hosts) → here (turns turn n i w) ≡ here w ++ so_often n xs
  turn_lengths turn xs each zero i w = sym (nothing_behind (here w))
  turn_lengths turn xs each (suc n) i w =
      then_more (here w) (here (turn i w)) xs (so_often n xs) (here (turns turn n (suc i) (turn i w))) (each i w) (turn_lengths turn xs each n (suc i) (turn i w))

  pub joint_lengths : (j : Joint) → IsTidy j → BranchesAreSilent j → (w : Hosts) → here (joint t j w) ≡ here w ++ lengths_in a b j
  joint_lengths Done tidy q w = sym (nothing_behind (here w))
  joint_lengths (Do h x rest) tidy q w =
      joint_lengths rest tidy q (after_do t h x w) ∙ ap (λ (r : List (List ℕ)). lengths r ++ lengths_in a b rest) (do_told t h x b w a)
  joint_lengths (Msg from said to heard rest) tidy q w =
      then_more (here w) (here (after_msg from said to heard w)) (added a b from said to) (lengths_in a b rest) (here (joint t rest (after_msg from said to heard w)))
      (msg_lengths from said to heard w tidy.0 a b) (joint_lengths rest tidy.1.1 q (after_msg from said to heard w))
  joint_lengths (If ps first other rest) tidy q w =
      joint_lengths rest tidy.1.1.1 q.1.1 (if is_other ps w then joint t other w else joint t first w)
      ∙ ap (λ (r : List (List ℕ)). lengths r ++ lengths_in a b rest)
      (either_sent a b (is_other ps w) w (joint t other w) (joint t first w) (silent_keeps t a b other q.1.0 w) (silent_keeps t a b first q.0 w))
  joint_lengths (For ps count body rest) tidy q w =
      let turn : ℕ → Hosts → Hosts = λ i v. joint t body (turn_begun ps i v) in
      then_more (here w) (here (turns turn count 0 w)) (so_often count (lengths_in a b body)) (lengths_in a b rest) (here (joint t rest (turns turn count 0 w)))
      (turn_lengths turn (lengths_in a b body)
      (λ i v. joint_lengths body tidy.1.0 q.0 (turn_begun ps i v) ∙ ap (λ (r : List ℕ). r ++ lengths_in a b body) (begun_lengths ps i a b v)) count 0 w)
      (joint_lengths rest tidy.1.1 q.1 (turns turn count 0 w))

-- ---- under every schedule

pub lengths_follow_code : LengthsFollowCode
lengths_follow_code s j schedule well q = record { first = front; all = whole }
  where
    way : IsOnTheWay s (reached s j schedule) (last_of s j)
    way = on_the_way s j schedule well

    end : (a b : ℕ) → lengths ((last_of s j a).sent b) ≡ lengths_in a b j
    end a b = joint_lengths (followed_by_zeros s) a b j well.tidy q fresh

    front : (a b : ℕ) → IsPrefixOf (lengths ((reached s j schedule a).sent b)) (lengths_in a b j)
    front a b = subst (λ (xs : List ℕ). IsPrefixOf (lengths ((reached s j schedule a).sent b)) xs) (end a b) (prefix_lengths ((reached s j schedule a).sent b) ((last_of s j a).sent b) (way.sent a b))

    whole : AllEnded (reached s j schedule) → (a b : ℕ) → lengths ((reached s j schedule a).sent b) ≡ lengths_in a b j
    whole ended a b = ap (λ (w : World). lengths ((w a).sent b)) (way.whole ended) ∙ end a b

pub lengths_follow_programs : LengthsFollowPrograms
lengths_follow_programs p l protocols chosen q inputs s schedule dealt =
    let r = assignments_tell_the_same p l protocols chosen inputs dealt.words (followed_by_zeros s) dealt.deal dealt.given in
    let well : RunsWell s (code_at (proto_in protocols) p) = record { tidy = r.tidy; smooth = r.smooth } in
    lengths_follow_code s (code_at (proto_in protocols) p) schedule well q

-- ---- where hosts send in branches

as_long_begun : (ps : List Part) (i : ℕ) (w v : Hosts) → AreAsLong w v → AreAsLong (turn_begun ps i w) (turn_begun ps i v)
as_long_begun ps i w v e a b = begun_lengths ps i a b w ∙ e a b ∙ sym (begun_lengths ps i a b v)

as_long_turns : (P : ℕ → Hosts → Hosts → Type 0) (f g : ℕ → Hosts → Hosts) → ((i : ℕ) (w v : Hosts) → P i w v → AreAsLong w v → AreAsLong (f i w) (g i v))
    → (n i : ℕ) (w v : Hosts) → BothTurns P f g n i w v → AreAsLong w v → AreAsLong (turns f n i w) (turns g n i v)
as_long_turns P f g each zero i w v both e = e
as_long_turns P f g each (suc n) i w v both e = as_long_turns P f g each n (suc i) (f i w) (g i v) both.1 (each i w v both.0 e)

as_long_kept : (w x v y : Hosts) → ((a b : ℕ) → (x a).sent b ≡ (w a).sent b) → ((a b : ℕ) → (y a).sent b ≡ (v a).sent b) → AreAsLong w v → AreAsLong x y
as_long_kept w x v y e f l a b = ap (λ (r : List (List ℕ)). lengths r) (e a b) ∙ l a b ∙ sym (ap (λ (r : List (List ℕ)). lengths r) (f a b))

as_long_chosen : (c d : Bool) → c ≡ d → (w0 w1 v0 v1 : Hosts) → (c ≡ true → AreAsLong w0 v0) → (c ≡ false → AreAsLong w1 v1) → AreAsLong (if c then w0 else w1) (if d then v0 else v1)
as_long_chosen c d e w0 w1 v0 v1 f g =
    let P : Bool → Type 0 = λ x. AreAsLong (if c then w0 else w1) (if x then v0 else v1) in
    subst P e (at c f g)
  where
    at : (c : Bool) → (c ≡ true → AreAsLong w0 v0) → (c ≡ false → AreAsLong w1 v1) → AreAsLong (if c then w0 else w1) (if c then v0 else v1)
    at true f g = f refl
    at false f g = g refl

pub lengths_tell_ways : LengthsTellWays
lengths_tell_ways t u Done w v tidy same e = e
lengths_tell_ways t u (Do h x rest) w v tidy same e =
    lengths_tell_ways t u rest (after_do t h x w) (after_do u h x v) tidy same
    (as_long_kept w (after_do t h x w) v (after_do u h x v) (λ a b. do_told t h x b w a) (λ a b. do_told u h x b v a) e)
lengths_tell_ways t u (Msg from said to heard rest) w v tidy same e =
    lengths_tell_ways t u rest (after_msg from said to heard w) (after_msg from said to heard v) tidy.1.1 same
    (λ a b. msg_lengths from said to heard w tidy.0 a b ∙ ap (λ (r : List ℕ). r ++ added a b from said to) (e a b) ∙ sym (msg_lengths from said to heard v tidy.0 a b))
lengths_tell_ways t u (If ps first other rest) w v tidy same e =
    lengths_tell_ways t u rest (if is_other ps w then joint t other w else joint t first w) (if is_other ps v then joint u other v else joint u first v) tidy.1.1.1 same.1
    (at same.0 (λ k. lengths_tell_ways t u other w v tidy.1.1.0 k e) (λ k. lengths_tell_ways t u first w v tidy.1.0 k e))
  where
    at : (IsSilent first × IsSilent other)
        ⊎ ((is_other ps w ≡ is_other ps v) × ((is_other ps w ≡ true → GoTheSameWay t u other w v) × (is_other ps w ≡ false → GoTheSameWay t u first w v)))
        → (GoTheSameWay t u other w v → AreAsLong (joint t other w) (joint u other v))
        → (GoTheSameWay t u first w v → AreAsLong (joint t first w) (joint u first v))
        → AreAsLong (if is_other ps w then joint t other w else joint t first w) (if is_other ps v then joint u other v else joint u first v)
    at (inl q) i_other i_first =
        as_long_kept w (if is_other ps w then joint t other w else joint t first w) v (if is_other ps v then joint u other v else joint u first v)
        (λ a b. either_sent a b (is_other ps w) w (joint t other w) (joint t first w) (silent_keeps t a b other q.1 w) (silent_keeps t a b first q.0 w))
        (λ a b. either_sent a b (is_other ps v) v (joint u other v) (joint u first v) (silent_keeps u a b other q.1 v) (silent_keeps u a b first q.0 v)) e
    at (inr k) i_other i_first =
        as_long_chosen (is_other ps w) (is_other ps v) k.0 (joint t other w) (joint t first w) (joint u other v) (joint u first v) (λ z. i_other (k.1.0 z)) (λ z. i_first (k.1.1 z))
lengths_tell_ways t u (For ps count body rest) w v tidy same e =
    lengths_tell_ways t u rest (turns (λ i x. joint t body (turn_begun ps i x)) count 0 w) (turns (λ i y. joint u body (turn_begun ps i y)) count 0 v) tidy.1.1 same.1
    (as_long_turns (λ i x y. GoTheSameWay t u body (turn_begun ps i x) (turn_begun ps i y)) (λ i x. joint t body (turn_begun ps i x)) (λ i y. joint u body (turn_begun ps i y))
    (λ i x y k l. lengths_tell_ways t u body (turn_begun ps i x) (turn_begun ps i y) tidy.1.0 k (as_long_begun ps i x y l)) count 0 w v same.0 e)
