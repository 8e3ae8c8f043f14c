-- The test is sound.
use Rattle.std.proofs.Common.{◌≡◌, ◌≢◌, ◌⊎◌, inl, inr, ℕ, nat_eq, nat_lt, List, [], ◌∷◌, Bool, true, false, if◌then◌else◌, refl, sym, ap, ◌∙◌}
use Rattle.std.specs.Prelude.{drop, replicate}
use Rattle.std.proofs.lemmas.Bool.{eq-eqb}
use Rattle.vd_base.specs.declared.operations.Op.TheVariants as op
use Rattle.vd_base.specs.Operations.{operation}
use Rattle.vd_execution.specs.declared.instructions.Reg.{Reg}
use Rattle.vd_execution.specs.declared.instructions.Action.{Action}
use Rattle.vd_execution.specs.declared.instructions.Action.TheVariants as action
use Rattle.vd_execution.specs.Registers.{Registers, put, put_each, written, applied, digest_of, nth}
use Rattle.vd_execution.specs.Code.{Code}
use Rattle.vd_execution.specs.Step.{Source, Need, Nothing, Item, Packet, Unequal, Ended, same_source, words_in}
use Rattle.vd_execution.proofs.Front.{put_commutes}
use Rattle.vd_reorder.specs.Hastening.{Piece, Acts, Sends, Awaits, MayPass, IsHastened}
use Rattle.vd_reorder.specs.Neighbours.{IsPlain, ListsDiffer, IsApart, AreApart}
use Rattle.vd_reorder.specs.ReorderLawsPassing.{hastened}
use Rattle.vd_reorder.specs.ReorderLawsTesting.{is_simple, is_print, reads, writes, needs, has, meet, share_list, both_may, may}
use Rattle.vd_reorder.proofs.Instances.{words_stay, send_before_receive, send_before_send, send_before_action, send_before_print, action_before_receive, action_before_send, action_before_print, action_before_action}
use Rattle.vd_reorder.proofs.RowsOfRegisters.{changed, changed_row, got, hashed, zeroed_row}
use Rattle.vd_reorder.proofs.ReorderLawsPassing.{pass_exchanges}

-- ---- what the tests tell

has_not : (r : Reg) (q : Reg) (qs : List Reg) (b : Bool) → nat_eq r.0 q.0 ≡ b → (if b then true else has r qs) ≡ false → (r.0 ≢ q.0) × (has r qs ≡ false)
has_not r q qs true e f = absurd cc
has_not r q qs false e f = ((λ same. let t = eq-eqb r.0 q.0 same in cc), f)

apart_one : (r : Reg) (qs : List Reg) → has r qs ≡ false → IsApart r qs
apart_one r [] e = _
apart_one r (q ∷ qs) e = let s = has_not r q qs (nat_eq r.0 q.0) refl e in (s.0, apart_one r qs s.1)

meet_not : (r : Reg) (rs qs : List Reg) (b : Bool) → has r qs ≡ b → (if b then true else meet rs qs) ≡ false → (has r qs ≡ false) × (meet rs qs ≡ false)
meet_not r rs qs true e f = absurd cc
meet_not r rs qs false e f = (e, f)

pub apart : (rs qs : List Reg) → meet rs qs ≡ false → AreApart rs qs
apart [] qs e = _
apart (r ∷ rs) qs e = let s = meet_not r rs qs (has r qs) refl e in (apart_one r qs s.0, apart rs qs s.1)

differ_by : (s r : Source) (b : Bool) → same_source s r ≡ b → (if b then true else same_source r s) ≡ false → (same_source s r ≡ false) × (same_source r s ≡ false)
differ_by s r true e f = absurd cc
differ_by s r false e f = (e, f)

differ : (m n : Need) → share_list m n ≡ false → ListsDiffer m n
differ Nothing n e = _
differ (Item s) Nothing e = _
differ (Item s) (Item r) e = differ_by s r (same_source s r) refl e
differ (Item s) (Packet p n) e = _
differ (Item s) (Unequal x y) e = _
differ (Item s) Ended e = _
differ (Packet p n) m e = _
differ (Unequal x y) m e = _
differ Ended m e = _

pub plain : (a : Action) → is_simple a ≡ true → IsPlain a (needs a)
plain (action.Const r k) e = record { needs = λ f. refl; silent = λ f. refl; has = _ }
plain (action.Copy r x) e = record { needs = λ f. refl; silent = λ f. refl; has = _ }
plain (action.Apply o r x y) e = record { needs = λ f. refl; silent = λ f. refl; has = _ }
plain (action.Shl r x k) e = record { needs = λ f. refl; silent = λ f. refl; has = _ }
plain (action.Shr r x k) e = record { needs = λ f. refl; silent = λ f. refl; has = _ }
plain (action.Mux r c x y) e = record { needs = λ f. refl; silent = λ f. refl; has = _ }
plain (action.Own r) e = record { needs = λ f. refl; silent = λ f. refl; has = _ }
plain (action.Triple p a b c) e = record { needs = λ f. refl; silent = λ f. refl; has = _ }
plain (action.Bits p a b c) e = record { needs = λ f. refl; silent = λ f. refl; has = _ }
plain (action.Pair p s x) e = record { needs = λ f. refl; silent = λ f. refl; has = _ }
plain (action.Input r) e = record { needs = λ f. refl; silent = λ f. refl; has = _ }
plain (action.Print r) e = absurd cc
plain (action.Hash d n v) e = record { needs = λ f. refl; silent = λ f. refl; has = _ }
plain (action.Same x y) e = absurd cc
plain (action.Zero r count) e = record { needs = λ f. refl; silent = λ f. refl; has = _ }
plain (action.Get r x count i) e = record { needs = λ f. refl; silent = λ f. refl; has = _ }
plain (action.Put x count i s) e = record { needs = λ f. refl; silent = λ f. refl; has = _ }

-- ---- a simple action writes what it makes of what it reads

abbrev results : Action → List ℕ → List ℕ → List ℕ
results (action.Const r k) ws xs = k ∷ []
results (action.Copy r x) ws xs = nth ws 0 ∷ []
results (action.Apply o r x y) ws xs = applied o (nth ws 0) (nth ws 1) ∷ []
results (action.Shl r x k) ws xs = operation (op.Shl k) (nth ws 0) 0 0 ∷ []
results (action.Shr r x k) ws xs = operation (op.Shr k) (nth ws 0) 0 0 ∷ []
results (action.Mux r c x y) ws xs = operation op.Mux (nth ws 0) (nth ws 1) (nth ws 2) ∷ []
results (action.Own r) ws xs = nth xs 0 ∷ []
results (action.Triple p a b c) ws xs = nth xs 0 ∷ nth xs 1 ∷ nth xs 2 ∷ []
results (action.Bits p a b c) ws xs = nth xs 0 ∷ nth xs 1 ∷ nth xs 2 ∷ []
results (action.Pair p s x) ws xs = nth xs 0 ∷ nth xs 1 ∷ []
results (action.Input r) ws xs = nth xs 0 ∷ []
results (action.Print r) ws xs = []
results (action.Hash d n v) ws xs = digest_of (drop 1 ws) (nth ws 0)
results (action.Same x y) ws xs = []
results (action.Zero r count) ws xs = replicate count 0
results (action.Get r x count i) ws xs = (if nat_lt (nth ws 0) count then nth (drop 1 ws) (nth ws 0) else 0) ∷ []
results (action.Put x count i s) ws xs = if nat_lt (nth ws 0) count then changed (drop 2 ws) (nth ws 0) (nth ws 1) else drop 2 ws

writes_results : (a : Action) (f : Registers) (xs : List ℕ) → written f a xs ≡ put_each f (writes a) (results a (words_in f (reads a)) xs)
writes_results (action.Const r k) f xs = refl
writes_results (action.Copy r x) f xs = refl
writes_results (action.Apply o r x y) f xs = refl
writes_results (action.Shl r x k) f xs = refl
writes_results (action.Shr r x k) f xs = refl
writes_results (action.Mux r c x y) f xs = refl
writes_results (action.Own r) f xs = refl
writes_results (action.Triple p a b c) f xs = refl
writes_results (action.Bits p a b c) f xs = refl
writes_results (action.Pair p s x) f xs = refl
writes_results (action.Input r) f xs = refl
writes_results (action.Print r) f xs = refl
writes_results (action.Hash d n v) f xs = hashed f d.0 n.0 v.0
writes_results (action.Same x y) f xs = refl
writes_results (action.Zero r count) f xs = zeroed_row f r.0 count
writes_results (action.Get r x count i) f xs = ap (put f r.0) (got f x.0 count (f i.0) (nat_lt (f i.0) count) refl)
writes_results (action.Put x count i s) f xs = changed_row f x.0 count (f i.0) (f s.0) (nat_lt (f i.0) count) refl

-- ---- registers apart

put_past : (f : Registers) (r : Reg) (x : ℕ) (vs : List Reg) (ys : List ℕ) → IsApart r vs → put_each (put f r.0 x) vs ys ≡ put (put_each f vs ys) r.0 x
put_past f r x [] ys a = refl
put_past f r x (v ∷ vs) [] a = refl
put_past f r x (v ∷ vs) (y ∷ ys) a = ap (λ g. put_each g vs ys) (put_commutes f r.0 v.0 x y a.0) ∙ put_past (put f v.0 y) r x vs ys a.1

puts_commute : (f : Registers) (ws : List Reg) (xs : List ℕ) (vs : List Reg) (ys : List ℕ) → AreApart ws vs → put_each (put_each f ws xs) vs ys ≡ put_each (put_each f vs ys) ws xs
puts_commute f [] xs vs ys a = refl
puts_commute f (r ∷ rs) [] vs ys a = refl
puts_commute f (r ∷ rs) (x ∷ xs) vs ys a = puts_commute (put f r.0 x) rs xs vs ys a.1 ∙ ap (λ g. put_each g rs xs) (put_past f r x vs ys a.0)

-- an action past registers that it neither reads nor writes
pub past_registers : (a : Action) (qs : List Reg) → AreApart (reads a) qs → AreApart (writes a) qs → (f : Registers) (xs ys : List ℕ)
    → written (put_each f qs xs) a ys ≡ put_each (written f a ys) qs xs
past_registers a qs r w f xs ys =
    writes_results a (put_each f qs xs) ys
    ∙ ap (λ ws. put_each (put_each f qs xs) (writes a) (results a ws ys)) (words_stay f qs xs (reads a) r)
    ∙ sym (puts_commute f (writes a) (results a (words_in f (reads a)) ys) qs xs w)
    ∙ ap (λ g. put_each g qs xs) (sym (writes_results a f ys))

pub kept_words : (b : Action) (rs : List Reg) → AreApart rs (writes b) → (f : Registers) (xs : List ℕ) → words_in (written f b xs) rs ≡ words_in f rs
kept_words b rs a f xs =
    ap (λ g. words_in g rs) (writes_results b f xs) ∙ words_stay f (writes b) (results b (words_in f (reads b)) xs) rs a

both_act : (b a : Action) → AreApart (reads a) (writes b) → AreApart (reads b) (writes a) → AreApart (writes b) (writes a)
    → (f : Registers) (xs ys : List ℕ) → written (written f b xs) a ys ≡ written (written f a ys) b xs
both_act b a ra rb w f xs ys =
    writes_results a (written f b xs) ys
    ∙ ap (λ ws. put_each (written f b xs) (writes a) (results a ws ys)) (kept_words b (reads a) ra f xs)
    ∙ ap (λ g. put_each g (writes a) (results a (words_in f (reads a)) ys)) (writes_results b f xs)
    ∙ puts_commute f (writes b) (results b (words_in f (reads b)) xs) (writes a) (results a (words_in f (reads a)) ys) w
    ∙ ap (λ g. put_each g (writes b) (results b (words_in f (reads b)) xs)) (sym (writes_results a f ys))
    ∙ ap (λ ws. put_each (written f a ys) (writes b) (results b ws xs)) (sym (kept_words a (reads b) rb f ys))
    ∙ sym (writes_results b (written f a ys) xs)

-- ---- the test

no_then : (b : Bool) (k : Bool) → (if b then false else k) ≡ true → (b ≡ false) × (k ≡ true)
no_then true k e = absurd cc
no_then false k e = (refl, e)

yes_then : (b : Bool) (k : Bool) → (if b then k else false) ≡ true → (b ≡ true) × (k ≡ true)
yes_then true k e = (refl, e)
yes_then false k e = absurd cc

either : (b k m : Bool) → (if b then k else m) ≡ true → ((b ≡ true) × (k ≡ true)) ⊎ (m ≡ true)
either true k m e = inl (refl, e)
either false k m e = inr e

send_past_print : (b : Action) (q : ℕ) (rs : List Reg) → is_print b ≡ true → MayPass (Acts b) (Sends q rs)
send_past_print (action.Const r k) q rs t = absurd cc
send_past_print (action.Copy r x) q rs t = absurd cc
send_past_print (action.Apply o r x y) q rs t = absurd cc
send_past_print (action.Shl r x k) q rs t = absurd cc
send_past_print (action.Shr r x k) q rs t = absurd cc
send_past_print (action.Mux r c x y) q rs t = absurd cc
send_past_print (action.Own r) q rs t = absurd cc
send_past_print (action.Triple p a b c) q rs t = absurd cc
send_past_print (action.Bits p a b c) q rs t = absurd cc
send_past_print (action.Pair p s x) q rs t = absurd cc
send_past_print (action.Input r) q rs t = absurd cc
send_past_print (action.Print r) q rs t = send_before_print r q rs
send_past_print (action.Hash d n v) q rs t = absurd cc
send_past_print (action.Same x y) q rs t = absurd cc
send_past_print (action.Zero r count) q rs t = absurd cc
send_past_print (action.Get r x count i) q rs t = absurd cc
send_past_print (action.Put x count i s) q rs t = absurd cc

action_past_print : (b g : Action) → is_simple g ≡ true → is_print b ≡ true → AreApart (reads b) (writes g) → MayPass (Acts b) (Acts g)
action_past_print (action.Const r k) g z t m = absurd cc
action_past_print (action.Copy r x) g z t m = absurd cc
action_past_print (action.Apply o r x y) g z t m = absurd cc
action_past_print (action.Shl r x k) g z t m = absurd cc
action_past_print (action.Shr r x k) g z t m = absurd cc
action_past_print (action.Mux r c x y) g z t m = absurd cc
action_past_print (action.Own r) g z t m = absurd cc
action_past_print (action.Triple p a b c) g z t m = absurd cc
action_past_print (action.Bits p a b c) g z t m = absurd cc
action_past_print (action.Pair p s x) g z t m = absurd cc
action_past_print (action.Input r) g z t m = absurd cc
action_past_print (action.Print r) g z t m = action_before_print r g (needs g) (plain g z) (λ f ys. ap (λ ws. nth ws 0) (kept_words g (r ∷ []) m f ys))
action_past_print (action.Hash d n v) g z t m = absurd cc
action_past_print (action.Same x y) g z t m = absurd cc
action_past_print (action.Zero r count) g z t m = absurd cc
action_past_print (action.Get r x count i) g z t m = absurd cc
action_past_print (action.Put x count i s) g z t m = absurd cc

-- neither writes what the other reads or writes, and they take from different lists
pub record DoNotNeed (b a : Action) : Type 0 where
  pub lists : ListsDiffer (needs b) (needs a)
  pub commute : (f : Registers) (xs ys : List ℕ) → written (written f b xs) a ys ≡ written (written f a ys) b xs

pub do_not_need : (b a : Action) → both_may b a ≡ true → DoNotNeed b a
do_not_need b a e =
    let l = no_then (share_list (needs b) (needs a)) _ e in
    let m = no_then (meet (reads a) (writes b)) _ l.1 in
    let k = no_then (meet (reads b) (writes a)) _ m.1 in
    let w = no_then (meet (writes b) (writes a)) true k.1 in
    record { lists = differ (needs b) (needs a) l.0; commute = both_act b a (apart (reads a) (writes b) m.0) (apart (reads b) (writes a) k.0) (apart (writes b) (writes a) w.0) }

-- neither writes what the other reads
pub reads_apart : (b a : Action) → both_may b a ≡ true → AreApart (reads a) (writes b) × AreApart (reads b) (writes a)
reads_apart b a e =
    let l = no_then (share_list (needs b) (needs a)) _ e in
    let m = no_then (meet (reads a) (writes b)) _ l.1 in
    let k = no_then (meet (reads b) (writes a)) _ m.1 in
    (apart (reads a) (writes b) m.0, apart (reads b) (writes a) k.0)

both : (b a : Action) → is_simple b ≡ true → is_simple a ≡ true → both_may b a ≡ true → MayPass (Acts b) (Acts a)
both b a s z e = let d = do_not_need b a e in action_before_action b a (needs b) (needs a) (plain b s) (plain a z) d.lists d.commute

pub sound : (x y : Piece) → may x y ≡ true → MayPass x y
sound (Awaits q qs) (Sends p rs) e = send_before_receive q p qs rs (apart rs qs (no_then (meet rs qs) true e).0)
sound (Sends q qs) (Sends p rs) e = send_before_send q p qs rs (λ same. let n = (no_then (nat_eq q p) true e).0 in let t = eq-eqb q p same in absurd cc)
sound (Acts b) (Sends p rs) e =
    elim (either (is_simple b) (if meet rs (writes b) then false else true) (is_print b) e) [
      | inl s ↦
          let m = no_then (meet rs (writes b)) true s.1 in
          send_before_action b (needs b) p rs (plain b s.0) (kept_words b rs (apart rs (writes b) m.0))
      | inr s ↦ send_past_print b p rs s
    ]
sound (Awaits q qs) (Acts a) e =
    let s = yes_then (is_simple a) (if meet (reads a) qs then false else (if meet (writes a) qs then false else true)) e in
    let m = no_then (meet (reads a) qs) (if meet (writes a) qs then false else true) s.1 in
    let k = no_then (meet (writes a) qs) true m.1 in
    action_before_receive q qs a (needs a) (plain a s.0) (past_registers a qs (apart (reads a) qs m.0) (apart (writes a) qs k.0))
sound (Sends q qs) (Acts a) e =
    let s = yes_then (is_simple a) (if meet qs (writes a) then false else true) e in
    let m = no_then (meet qs (writes a)) true s.1 in
    action_before_send q qs a (needs a) (plain a s.0) (kept_words a qs (apart qs (writes a) m.0))
sound (Acts b) (Acts a) e =
    let z = yes_then (is_simple a) _ e in
    elim (either (is_simple b) (both_may b a) (if is_print b then (if meet (reads b) (writes a) then false else true) else false) z.1) [
      | inl s ↦ both b a s.0 z.0 s.1
      | inr s ↦ let p = yes_then (is_print b) _ s in let m = no_then (meet (reads b) (writes a)) true p.1 in action_past_print b a z.0 p.0 (apart (reads b) (writes a) m.0)
    ]
sound (Acts b) (Awaits p rs) e = absurd cc
sound (Sends q qs) (Awaits p rs) e = absurd cc
sound (Awaits q qs) (Awaits p rs) e = absurd cc

pub each_code : (n : ℕ) (c : Code) → IsHastened c (hastened may n c)
each_code n c = pass_exchanges may n c sound
