-- Both runs as lists follow both runs as functions, and so does the deal that is changed on the way.
use Rattle.std.proofs.Common.{◌≡◌, ℕ, true, false, List, refl, sym, ap, subst, ◌∙◌, inl, inr}
use Rattle.std.specs.Prelude.{slice_index}
use Rattle.vd_base.specs.declared.ids.HostId.{HostId}
use Rattle.vd_execution.specs.Step.{Source, Cursors}
use Rattle.vd_execution.specs.World.{Tape}
use Rattle.vd_execution.specs.Joint.{Hosts}
use Rattle.vd_views.specs.Excused.{with_item}
use Rattle.vd_views.proofs.Front.{changed_host}
use Rattle.std.proofs.lemmas.Bool.Decides.{eqb_tells}
use Rattle.vd_excuse_walk.specs.Walks.{Both}
use Rattle.vd_excuse_runs.specs.declared.side.Side.{Side}
use Rattle.vd_excuse_runs.specs.Runs.{side_at, put_side}
use Rattle.vd_excuse_walk.specs.declared.walker.Walker.{Walker}
use Rattle.vd_excuse_walk.specs.Supplies.{Lists, lists_of, supplies, dealt}
use Rattle.vd_excuse_walk.specs.Following.{IsIn, Counts, Stands, Known, Goes, NotWith, Keeps, Follows}
use Rattle.vd_excuse_walk.proofs.Runs.{side_here, side_there}

keeps_on : (l m k : Lists) → Keeps l m → k ≡ m → Keeps l k
keeps_on l m k is e = record { peer = ap (λ (x : Lists). x.peer) e ∙ is.peer; inputs = ap (λ (x : Lists). x.inputs) e ∙ is.inputs; own = ap (λ (x : Lists). x.own) e ∙ is.own }

module _ (h : HostId) (t : Tape) (n : ℕ → Source → ℕ) (start : List Side) where
  -- both runs have gone on, with the same deal and the same lists
  pub gone_on : (d z : Walker) (r : Both) (w v : Hosts) → Follows h t n start d r → z.host ≡ d.host → Goes n false t z.first w → Goes n true r.deal z.second v
      → ((g : ℕ) → lists_of (side_at z.second g) ≡ lists_of (side_at d.second g)) → Follows h t n start z (record { deal = r.deal; first = w; second = v })
  gone_on d z r w v is host first second same = record {
    host = host ∙ is.host;
    first = first;
    second = second;
    looker = is.looker;
    keeps = λ g. keeps_on _ _ _ (is.keeps g) (same g);
    mine = same h.0 ∙ is.mine;
  }

  -- ---- one item of a host is changed

  -- what is to be known of a host whose next item is changed
  pub record IsChanged (d : Walker) (r : Both) (k : ℕ) (s : Side) (source : Source) (i : ℕ) (item : List ℕ) : Type 0 where
    pub registers : s.registers ≡ (side_at d.second k).registers
    pub dealt_same : (q : Source) → dealt (lists_of s) q ≡ dealt (lists_of (side_at d.second k)) q
    pub counts : (c : Cursors) → Counts (lists_of (side_at d.second k)) (side_at d.second k).taken c → Counts (lists_of s) s.taken c
    pub keeps : Keeps (lists_of (side_at d.second k)) (lists_of s)
    pub mine : k ≡ h.0 → lists_of s ≡ lists_of (side_at d.second k)
    pub items : Known true r.deal d.second r.second → (q : Source) (j : ℕ) → IsIn (lists_of s) q j → with_item r.deal k source i item k q j ≡ supplies (lists_of s) q j
    pub with_h : (q : Source) (j : ℕ) → NotWith h.0 q → with_item r.deal k source i item k q j ≡ r.deal k q j

  pub changed_follows : (d : Walker) (r : Both) (k : ℕ) (s : Side) (source : Source) (i : ℕ) (item : List ℕ) → Follows h t n start d r → IsChanged d r k s source i item
      → Follows h t n start (record d { second = put_side d.second k s }) (record { deal = with_item r.deal k source i item; first = r.first; second = r.second })
  changed_follows d r k s source i item is c = record {
    host = is.host;
    first = is.first;
    second = record {
      counts = λ g q. at g (λ x. dealt (lists_of x) q ≡ n g q) (λ e. c.dealt_same q ∙ is.second.counts k q ∙ ap (λ y. n y q) (sym e)) (is.second.counts g q);
      known = λ within.
          let known = is.second.known within in
          record {
            holds = λ g q j there.
                elim (eqb_tells g k) [
                  | inl e ↦ (let here : lists_of (side_at (put_side d.second k s) g) ≡ lists_of s = ap lists_of (side_here d.second k s g e.1) in
                      let P : Lists → Type 0 = λ l. IsIn l q j in
                      ap (λ y. with_item r.deal k source i item y q j) e.1 ∙ c.items known q j (subst P here (there refl)) ∙ ap (λ (l : Lists). supplies l q j) (sym here))
                  | inr e ↦ (let there_is : lists_of (side_at (put_side d.second k s) g) ≡ lists_of (side_at d.second g) = ap lists_of (side_there d.second k s g e.1) in
                      let P : Lists → Type 0 = λ l. IsIn l q j in
                      changed_host r.deal k source i item g q j e.1 ∙ known.holds g q j (λ f. subst P there_is (there f)) ∙ ap (λ (l : Lists). supplies l q j) (sym there_is))
                ];
            stands = λ g. at g (λ x. Stands x (r.second g))
                (λ e. let P : ℕ → Type 0 = λ y. Stands s (r.second y) in
                let one : Stands s (r.second k) = record { registers = ap slice_index c.registers ∙ (known.stands k).registers; taken = c.counts (r.second k).cursors (known.stands k).taken } in
                subst P (sym e) one)
                (known.stands g);
          };
    };
    looker = λ q j apart.
        elim (eqb_tells h.0 k) [
          | inl e ↦ ap (λ y. with_item r.deal k source i item y q j) e.1 ∙ c.with_h q j apart ∙ ap (λ y. r.deal y q j) (sym e.1) ∙ is.looker q j apart
          | inr e ↦ changed_host r.deal k source i item h.0 q j e.1 ∙ is.looker q j apart
        ];
    keeps = λ g. at g (λ x. Keeps (lists_of (side_at start g)) (lists_of x))
        (λ e. let P : ℕ → Type 0 = λ y. Keeps (lists_of (side_at start y)) (lists_of s) in subst P (sym e) (both_keep _ _ _ (is.keeps k) c.keeps)) (is.keeps g);
    mine = elim (eqb_tells h.0 k) [
      | inl e ↦ ap lists_of (side_here d.second k s h.0 e.1) ∙ c.mine (sym e.1) ∙ ap (λ y. lists_of (side_at d.second y)) (sym e.1) ∙ is.mine
      | inr e ↦ ap lists_of (side_there d.second k s h.0 e.1) ∙ is.mine
    ];
  }
    where
      at : (g : ℕ) (P : Side → Type 0) → (g ≡ k → P s) → P (side_at d.second g) → P (side_at (put_side d.second k s) g)
      at g P here there =
          elim (eqb_tells g k) [
            | inl e ↦ subst P (sym (side_here d.second k s g e.1)) (here e.1)
            | inr e ↦ subst P (sym (side_there d.second k s g e.1)) there
          ]

      both_keep : (l m x : Lists) → Keeps l m → Keeps m x → Keeps l x
      both_keep l m x a b = record { peer = b.peer ∙ a.peer; inputs = b.inputs ∙ a.inputs; own = b.own ∙ a.own }
