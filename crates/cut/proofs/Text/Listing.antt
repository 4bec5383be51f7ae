-- The nodes of a reading.
use Prim.Native.Nat.{ℕ, zero, suc, ◌+◌, ◌≤◌, ◌<◌}
use Rattle.std.proofs.Common.{not-suc-le-zero, arith, sym, ◌∙◌, ltb-true, ltb-false, ne_eqb, lt-ltb}
use Rattle.std.proofs.Math.Path.{◌≡◌, refl, ap, subst}
use Rattle.std.specs.Prelude.{Bool, true, ◌&&◌, drop, ltb}
use Rattle.std.proofs.Math.Bool.{false}
use mathlib.Core.List.{List, [], ◌∷◌, ◌++◌, map}
use Rattle.std.proofs.Math.ListN.{length}
use Rattle.std.proofs.Math.Dec.{eqb}
use Rattle.syntax.specs.Marks.{Mark, placed, kind_of, move_up, node, text_node}
use Rattle.syntax.specs.declared.errors.ParserError.{ParserError}
use Rattle.syntax.specs.Reader.{Out, ok, bad, deep}
use Rattle.syntax.specs.Helper.{skip_blank_block}
use Rattle.syntax.specs.Pattern.{Inside, used_by}
use Rattle.syntax.specs.Core.{Entry, comment, message, term, get_entry, junk_end, Error, Reading, read, refused}
use Rattle.syntax.specs.Core.{following, is_named, kind_of_entry, entries}
use Rattle.syntax.specs.Serializer.{Node, nodes, nodes_from}
use Rattle.laws.specs.Bytes.{Whole, whole_drop, by_case, clash}
use Rattle.laws.specs.Answers.{sure-ok}
use Rattle.laws.specs.Stable.Helper.{block-sure}
use Rattle.laws.specs.Entries.{entries_with, not-deep, Step, step_of, nil-named}
use Rattle.cut.proofs.Tree.Join.{and-false}
use Rattle.laws.specs.Balanced.{Levels}
use Rattle.laws.specs.Formed.Pattern.{InsideFormed}
use Rattle.laws.specs.Formed.Entry.{entry-levels}
use Rattle.laws.specs.File.{Small, small_of, kind-le}
use Rattle.laws.specs.Balanced.Nodes.{node_of, nodes-node, nodes-text, up_node, nodes-up}
use Rattle.cut.proofs.Text.Piece.{Ends, Opening, opens_nodes}
use Rattle.cut.specs.Claim.{first_entry, is_free}

-- whether a tree opens with a free comment
abbrev pub opens_free : List Mark → Bool
opens_free ms = is_free (first_entry (map kind_of ms))

kind-low : (e : Entry) (v : Bool) → Small e → v ≡ false → kind_of_entry e v ≤ 5
unfolding kind_of_entry
kind-low message v s q = omega arith
kind-low term v s q = omega arith
kind-low (comment l) v s q = rw (q, kind_of_entry) (rw (and-false (eqb l 1)) (omega (arith, s.1)))

not-six : (k : ℕ) → k ≤ 5 → eqb k 6 ≡ false
not-six k h = ne_eqb k 6 (λ e. omega arith)

module _ (sub : Inside) where
  module _ {depth : ℕ} (mk : InsideFormed depth sub) where
    abbrev near : (n : ℕ) (s : List ℕ) (ma : List Mark) (t : Step sub n s ma) → Bool
    near n s ma t = ltb t.c 2 && is_named (get_entry sub (drop (t.k + t.u) s))

    pub none_read : (n : ℕ) (ma : List Mark) (es : List Error) → entries n sub [] ≡ read ma es → ma ≡ []
    unfolding entries
    none_read zero ma es e = let z : ◌≡◌ {A = ℕ} 0 1 = cc in absurd (omega arith)
    none_read (suc n) ma es e = cc

    -- nodes moved up keep their kinds
    module _ (S : List ℕ) where
      pub ends-up : (j : ℕ) (ns : List Node) → Ends S ns → Ends S (map (up_node j) ns)
      ends-up j [] h = tt
      ends-up j (n ∷ []) h = h
      ends-up j (n ∷ m ∷ ns) h = (h.0, ends-up j (m ∷ ns) h.1)

      ends-cons : (n : Node) (ns : List Node) → eqb n.kind 7 ≡ false → (ns ≡ [] → eqb n.kind 6 ≡ false) → Ends S ns → Ends S (n ∷ ns)
      ends-cons n [] p q h = (p, q refl)
      ends-cons n (m ∷ ns) p q h = (p, h)

      abbrev pub Some : List Node → Type 0
      Some ns = (n : Node) × (ms : List Node) × (ns ≡ n ∷ ms)

      some_up : (j : ℕ) (ns : List Node) → Some ns → map (up_node j) ns ≡ [] → ⊥
      some_up j ns (n, ms, e) h = let z : up_node j n ∷ map (up_node j) ms ≡ [] = sym (ap (map (up_node j)) e) ∙ h in
          let i : ◌≡◌ {A = ℕ} 0 1 = cc in omega arith

      nodes-of : (K : ℕ) (ms mr : List Mark) (j : ℕ) → K ≤ 6 → Levels 0 ms
          → nodes (node K ms ++ move_up j mr) ≡ node_of K ms ∷ map (up_node j) (nodes mr)
      nodes-of K ms mr j h l = nodes-node K ms (move_up j mr) (lt-ltb K 100 (omega arith)) l ∙ ap (λ r. node_of K ms ∷ r) (nodes-up j mr)

      pub entries-ends : (n : ℕ) (s : List ℕ) (ma : List Mark) → Whole s → entries n sub s ≡ read ma []
          → Ends S (nodes ma) × (0 < length s → Some (nodes ma))
      unfolding entries nodes nodes_from
      entries-ends zero s ma w e = let z : ◌≡◌ {A = ℕ} 0 1 = cc in absurd (omega arith)
      entries-ends (suc n) [] ma w e = (subst (λ z. Ends S (nodes z)) (sym (none_read (suc n) ma [] e)) tt, λ h. absurd (not-suc-le-zero h))
      entries-ends (suc n) (b ∷ bs) ma w e =
          let t = step_of sub n b bs ma e in
          by (step_of sub n b bs ma e)
          (entries-ends n (drop (t.k + t.u) (b ∷ bs)) t.mr (whole_drop (t.k + t.u) (b ∷ bs) w) t.rest)
        where
          by : (t : Step sub n (b ∷ bs) ma) → Ends S (nodes t.mr)
              × (0 < length (drop (t.k + t.u) (b ∷ bs)) → Some (nodes t.mr)) → Ends S (nodes ma)
              × (0 < suc (length bs) → Some (nodes ma))
          by t ih = (
            subst (Ends S) (sym listed)
                (ends-cons (node_of K t.ms) (map (up_node j) (nodes t.mr)) (ne_eqb K 7 (λ z. omega (arith, le))) last
                (ends-up j (nodes t.mr) ih.0)),
            λ h. (node_of K t.ms, map (up_node j) (nodes t.mr), listed),
          )
            where
              j : ℕ
              j = t.k + t.u

              K : ℕ
              K = kind_of_entry t.e (near n (b ∷ bs) ma t)

              le : K ≤ 6
              le = kind-le t.e (near n (b ∷ bs) ma t) (small_of sub (b ∷ bs) t.entry)

              listed : nodes ma ≡ node_of K t.ms ∷ map (up_node j) (nodes t.mr)
              listed = ap nodes (sym t.marks) ∙ nodes-of K t.ms t.mr j le (entry-levels mk (b ∷ bs) t.entry)

              last : map (up_node j) (nodes t.mr) ≡ [] → eqb K 6 ≡ false
              last h = by_case (ltb 0 (length (drop (t.k + t.u) (b ∷ bs))))
                  (λ q. absurd (some_up j (nodes t.mr) (ih.1 (ltb-true 0 (length (drop (t.k + t.u) (b ∷ bs))) q)) h))
                  (λ q. not-six K (kind-low t.e (near n (b ∷ bs) ma t) (small_of sub (b ∷ bs) t.entry)
                  (ap (λ r. ltb t.c 2 && is_named (get_entry sub r))
                  (empty_of (drop (t.k + t.u) (b ∷ bs)) (ltb-false 0 (length (drop (t.k + t.u) (b ∷ bs))) q))
                  ∙ ap (λ v. ltb t.c 2 && v) (nil-named sub) ∙ and-false (ltb t.c 2))))
                where
                  empty_of : (r : List ℕ) → length r ≤ 0 → r ≡ []
                  empty_of [] h = refl
                  empty_of (c ∷ cs) h = absurd (not-suc-le-zero h)

      -- the first node of any reading
      follow : (ms : List Mark) (xs : List Error) (k : ℕ) (r : Reading) (ns : List Mark) (es : List Error)
          → following ms xs k r ≡ read ns es → (ns' : List Mark) × (es' : List Error) × (r ≡ read ns' es')
          × (ms ++ move_up k ns' ≡ ns)
      unfolding following
      follow ms xs k (read ns' es') ns es e = (ns', es', refl, cc)
      follow ms xs k (refused j) ns es e = let z : ◌≡◌ {A = ℕ} 0 1 = cc in absurd (omega arith)

      entries-bad : (n c : ℕ) (cs : List ℕ) (mb : List Mark) (eb : List Error) (f : ParserError) (k : ℕ)
          → entries (suc n) sub (c ∷ cs) ≡ read mb eb → get_entry sub (c ∷ cs) ≡ bad f k → (j i : ℕ) × (mr : List Mark)
          × (text_node 7 0 j ++ move_up i mr ≡ mb)
      unfolding entries
      entries-bad n c cs mb eb f k e p =
          let j = junk_end k (c ∷ cs) in
          let i = j + used_by (skip_blank_block (drop j (c ∷ cs))) in
          let (mr, er, r, m) =
          follow (text_node 7 0 j) (record { fault = f; junk_from = 0; junk_till = j } ∷ []) i
          (entries n sub (drop i (c ∷ cs))) mb eb (rw (p, entries) at e) in
          (j, i, mr, m)

      entries-ok : (n c : ℕ) (cs : List ℕ) (mb : List Mark) (eb : List Error) (e : Entry) (ms : List Mark) (k : ℕ)
          → entries (suc n) sub (c ∷ cs) ≡ read mb eb → get_entry sub (c ∷ cs) ≡ ok e ms k
          → (g j : ℕ) × (r : List ℕ) × (mr : List Mark) × (er : List Error) × (entries n sub r ≡ read mr er)
          × (node (kind_of_entry e (ltb g 2 && is_named (get_entry sub r))) ms ++ move_up j mr ≡ mb)
      entries-ok n c cs mb eb e ms k h p =
          let (g, gs, u, gap) = sure-ok (skip_blank_block (drop k (c ∷ cs))) (block-sure (drop k (c ∷ cs))) in
          let (mr, er, r, m) =
          follow (node (kind_of_entry e (ltb g 2 && is_named (get_entry sub (drop (k + u) (c ∷ cs))))) ms) [] (k + u)
          (entries n sub (drop (k + u) (c ∷ cs))) mb eb
          (sym (entries_with sub n c cs e ms k g u gs (drop (k + u) (c ∷ cs)) p gap refl) ∙ h) in
          (g, k + u, drop (k + u) (c ∷ cs), mr, er, r, m)

      abbrev Named : List Node → Type 0
      Named ns = (n : Node) × (ms : List Node) × (ns ≡ n ∷ ms) × (is_free n.kind ≡ false) × (eqb n.kind 6 ≡ false)

      named-first : (n : ℕ) (r : List ℕ) (mr : List Mark) (er : List Error) → entries n sub r ≡ read mr er
          → is_named (get_entry sub r) ≡ true → Named (nodes mr)
      unfolding entries
      named-first zero r mr er e h = let z : ◌≡◌ {A = ℕ} 0 1 = cc in absurd (omega arith)
      named-first (suc n) [] mr er e h = clash h (nil-named sub)
      named-first (suc n) (c ∷ cs) mr er e h = go (get_entry sub (c ∷ cs)) refl (ap is_named refl ∙ h)
        where
          by : (d : Entry) (ms : List Mark) (k : ℕ) → get_entry sub (c ∷ cs) ≡ ok d ms k → (kd : ℕ)
              → ((v : Bool) → kind_of_entry d v ≡ kd) → kd ≤ 6 → is_free kd ≡ false → eqb kd 6 ≡ false → Named (nodes mr)
          by d ms k p kd f le a b =
              let (g, j, r, ns, es, rd, m) = entries-ok n c cs mr er d ms k e p in (
                node_of kd ms,
                map (up_node j) (nodes ns),
                ap nodes (sym m)
                    ∙ ap (λ i. nodes (node i ms ++ move_up j ns)) (f (ltb g 2 && is_named (get_entry sub r)))
                    ∙ nodes-of kd ms ns j le (entry-levels mk (c ∷ cs) p),
                a,
                b,
              )

          go : (o : Out Entry) → get_entry sub (c ∷ cs) ≡ o → is_named (get_entry sub (c ∷ cs)) ≡ true → Named (nodes mr)
          go (ok message ms k) p q = by message ms k p 1 (λ v. unfold kind_of_entry in refl) (omega arith) refl refl
          go (ok term ms k) p q = by term ms k p 2 (λ v. unfold kind_of_entry in refl) (omega arith) refl refl
          go (ok (comment l) ms k) p q = clash q (ap is_named p ∙ (unfold is_named in refl))
          go (bad f k) p q = clash q (ap is_named p ∙ (unfold is_named in refl))
          go (deep k) p q = clash q (ap is_named p ∙ (unfold is_named in refl))

      opening-cons : (n : Node) (ns : List Node) → (eqb n.kind 6 ≡ true → Named ns) → Opening S (n ∷ ns)
      opening-cons n [] h = by_case (eqb n.kind 6) (λ q. absurd (none (h q))) (λ q. q)
        where
          none : Named [] → ⊥
          none t = let e = t.2 in let z : ◌≡◌ {A = ℕ} 0 1 = cc in omega arith
      opening-cons n (m ∷ ns) h = λ q. same (h q)
        where
          same : Named (m ∷ ns) → (is_free m.kind ≡ false) × (eqb m.kind 6 ≡ false)
          same t = let e = t.2 in let z : t.0 ≡ m = cc in
              (subst (λ x. is_free x.kind ≡ false) z t.3, subst (λ x. eqb x.kind 6 ≡ false) z t.4)

      named-up : (j : ℕ) (ns : List Node) → Named ns → Named (map (up_node j) ns)
      named-up j ns (n, ms, e, a, b) = (up_node j n, map (up_node j) ms, ap (map (up_node j)) e, a, b)

      pub entries-opening : (n : ℕ) (y : List ℕ) (mb : List Mark) (eb : List Error) → entries n sub y ≡ read mb eb
          → Opening S (nodes mb) × (opens_nodes S (nodes mb) ≡ opens_free mb)
      unfolding entries nodes nodes_from first_entry node text_node
      entries-opening zero y mb eb e = let z : ◌≡◌ {A = ℕ} 0 1 = cc in absurd (omega arith)
      entries-opening (suc n) [] mb eb e = let z = none_read (suc n) mb eb e in
          (subst (λ r. Opening S (nodes r)) (sym z) tt, subst (λ r. opens_nodes S (nodes r) ≡ opens_free r) (sym z) refl)
      entries-opening (suc n) (c ∷ cs) mb eb e = go (get_entry sub (c ∷ cs)) refl
        where
          go : (o : Out Entry) → get_entry sub (c ∷ cs) ≡ o → Opening S (nodes mb) × (opens_nodes S (nodes mb) ≡ opens_free mb)
          go (ok d ms k) p = by (entries-ok n c cs mb eb d ms k e p)
            where
              by : (g j : ℕ) × (r : List ℕ) × (mr : List Mark) × (er : List Error) × (entries n sub r ≡ read mr er)
                  × (node (kind_of_entry d (ltb g 2 && is_named (get_entry sub r))) ms ++ move_up j mr ≡ mb)
                  → Opening S (nodes mb) × (opens_nodes S (nodes mb) ≡ opens_free mb)
              by (g, j, r, mr, er, rd, m) = (
                subst (Opening S) (sym listed)
                    (opening-cons (node_of K ms) (map (up_node j) (nodes mr))
                    (λ q. named-up j (nodes mr)
                    (named-first n r mr er rd (and_right (ltb g 2) (is_named (get_entry sub r)) (near-true q))))),
                ap (opens_nodes S) listed ∙ ap opens_free m,
              )
                where
                  K : ℕ
                  K = kind_of_entry d (ltb g 2 && is_named (get_entry sub r))

                  listed : nodes mb ≡ node_of K ms ∷ map (up_node j) (nodes mr)
                  listed = ap nodes (sym m)
                      ∙ nodes-of K ms mr j (kind-le d (ltb g 2 && is_named (get_entry sub r)) (small_of sub (c ∷ cs) p))
                      (entry-levels mk (c ∷ cs) p)

                  near-true : eqb K 6 ≡ true → (ltb g 2 && is_named (get_entry sub r)) ≡ true
                  near-true q =
                      by_case (ltb g 2 && is_named (get_entry sub r)) (λ z. z)
                      (λ z. clash q
                      (not-six K (kind-low d (ltb g 2 && is_named (get_entry sub r)) (small_of sub (c ∷ cs) p) z)))

                  and_right : (a b : Bool) → (a && b) ≡ true → b ≡ true
                  and_right true b h = h
                  and_right false b h = clash h refl
          go (bad f k) p = by (entries-bad n c cs mb eb f k e p)
            where
              by : (j i : ℕ) × (mr : List Mark) × (text_node 7 0 j ++ move_up i mr ≡ mb) → Opening S (nodes mb)
                  × (opens_nodes S (nodes mb) ≡ opens_free mb)
              by (j, i, mr, m) =
                  let listed = ap nodes (sym m) ∙ nodes-text 7 0 j (move_up i mr) refl in (
                    subst (Opening S) (sym listed)
                        (opening-cons
                        (record { kind = 7; opening = placed 7 0; closing = placed (100 + 7) j; inner = [] })
                        (nodes (move_up i mr)) (λ q. clash q refl)),
                    ap (opens_nodes S) listed
                        ∙ ap opens_free m,
                  )
          go (deep k) p = absurd (not-deep sub n c cs mb eb k e p)
