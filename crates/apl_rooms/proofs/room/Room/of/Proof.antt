-- A full row becomes a room.
use Rattle.atomic_table.proofs.Names.{◌≡◌, ℕ, zero, suc, rewrite, ap, ◌<◌, List, [], ◌∷◌, ◌++◌, length, sym, refl, ◌∙◌, subst, arith, a_type, Val, inst_fn, SProp, ent, emp, id⊢, Lft, Share, ftrue, flft, ‵, raw, ◌⊛◌, given, later, at_ret, ◌$◌, ◌∵◌, !, qed, by, move, keep, split, join, fsplit, fjoin, learn, use0, use1, use2, await, stop, fld, of_opd, no_more, and_then, first, blocks, exec, returns, enter, alloc_all, pass_all, free_all, look_at, get, get_in, sets, lands_last, is, env, agg, sub, whole, tables, no, RattleType, owns, types_at, plain, Ptr, block_ptr, nothing, param, layouts, Stays, stay_dropped, walk_of, Goes-dropped, fact, fact_i, heard, Bool, WT, WpFn, ◌⊑◌, calls_at_last}
use Rattle.atomic_table.proofs.Walks.{leaves}
use Rattle.core.proofs.atomic.Steps.{tail}
use Rattle.atomic_table.proofs.Calls.{fm}
use Rattle.atomic_table.proofs.Walks.{proved_at}
use Rattle.core.specs.Mem.Slots.{slots_items, slots_filled, slots_ptr, slots_len, slots_counts, IsFull}
use Rattle.core.proofs.mem.Param.{El}
use Rattle.core.proofs.slots.Opens.{row_val}
use Rattle.core.proofs.slots.Slots.into_raw_parts.Met as callee
use Rattle.apl_rooms.proofs.Opens.{room_d, room_made}
use lib.ListN.{get_or, replicate}
use native.Mathlib.Nat.{not-suc-le-zero}
use mathlib.Core.Bool.{true, false}
use Rattle.core.specs.Mem.Slots.Ownership.{slots}
use Rattle.atomic_table.proofs.Raw.{Row, all as places, parts_typed, Row-seen, Into, at_into, Into-goes, Into-gives}
use Rattle.apl_rooms.specs.contracts.room.Room.of.{ended, clauses}
use Rattle.apl_rooms.specs.contracts.room.Room.of.Key.{name as #self}
use Rattle.apl_rooms.proofs.room.Room.of.Statement.{statement}
use Rattle.apl_rooms.proofs.room.Room.of.Code as code

filled : (fs : List Bool) (k : ℕ) → length fs ≡ k → ((j : ℕ) → j < k → get_or fs j false ≡ true) → fs ≡ replicate k true
filled [] zero e h = refl
filled [] (suc k) e h = (let e' : 0 ≡ suc k = e in absurd (not-suc-le-zero {n = 0} (omega arith)))
filled (f ∷ fs) zero e h = (let e' : suc (length fs) ≡ 0 = e in absurd (not-suc-le-zero {n = 0} (omega arith)))
filled (f ∷ fs) (suc k) e h =
    let e' : suc (length fs) ≡ suc k = e in
    let first : f ≡ true = h 0 (let up : 0 < suc k = omega arith in up) in
    ap (λ (g : Bool). g ∷ fs) first ∙ ap (λ (gs : List Bool). true ∷ gs) (filled fs k (omega arith) (λ j lt. h (suc j) (let up : suc j < suc k = omega arith in up)))

pub of_spec : {M : Type 1} → statement M
of_spec 𝓤 𝓛 𝓜 𝓡 wired T L =
    let H = 𝓛.H in let 𝓣 = tables 𝓤 H 𝓜 𝓡 𝓡.env in let R : RattleType = param 0 T in let E : El = record { row = T; laws = L } in let En = ended T in
    let inst = layouts (a_type ∷ []) (T, tt) in let fn = inst_fn inst code.function in let c = clauses T 𝓛 𝓜.mem 𝓡.returns in
    let met = callee.met 𝓤 𝓛 𝓜 𝓡 (code.calls-core::slots::Slots::into_raw_parts 𝓡.env wired) T L in
    let hs : Stays En.signature.params En.kept = (stay_dropped (plain (λ _. Row E)) no, tt) in
    proved_at 𝓛 En hs c 𝓜 𝓡 (Goes-dropped 𝓛 1 (plain (λ _. Row E)) no (λ κs x f. refl), tt) (#self inst) fn (code.unfolded 𝓤 H 𝓜 𝓡 wired (T, tt)) (λ z are.
    let κ : Lft = z.0.0.0 in let q : Share = z.0.1.0 in let r : (Row E).Denot = z.0.3.0 in let vss = z.0.4 in let k : ℕ = slots_len r in let xs : List T.Denot = slots_items r in let fs : List Bool = slots_filled r in
    let Post : Val → SProp 𝓤 = (walk_of 𝓛 En hs c).post z in let Run : List Val → SProp 𝓤 = λ ws. WpFn 𝓤 H 𝓣.C 𝓣.Λ fn ws Post in
    qed 𝓛 (((‵ (flft κ q) ⊛ ‵ ftrue) ⊛ ‵ (owns (types_at En.signature.params z.0.0) z.0.3 vss)) ∷ raw (fact 𝓤 (κ ⊑ T.lives)) ∷ raw (fact 𝓤 (IsFull r)) ∷ []) ∵
    move ! (1 ∷ 2 ∷ []) $ heard ! (κ ⊑ T.lives) (λ le. heard ! (IsFull r) (λ full. split ! $ split ! $ move ! (2 ∷ []) $ fsplit ! $ Row-seen E ! r vss.0 (λ b o at e fk fit. keep ! (0 ∷ 2 ∷ []) $
    let us : List Val = row_val b o k ∷ [] in let lx : k ≡ length xs = (slots_counts r).0 in let lf : k ≡ length fs = (slots_counts r).1 in let p : Ptr = block_ptr b o in
    let words : WT (row_val b o k) = (tt, (record { fits = fk }, tt)) in let new : room_d E = record { ptr = p; len = k; items = xs; ok = lx; small = fk } in let Told : Type 0 = (p ≡ slots_ptr r) × (k ≡ k) × (xs ≡ xs) in
    types.Kit.suffices ! (Run us) (subst (λ (ws : List Val). ent 𝓤 (Run us) (Run ws)) (sym (λ i. e i ++ [])) (id⊢ 𝓤 (Run us))) $
    enter ! 𝓣.C 𝓣.Λ fn us Post $ alloc_all ! (λ l. pass_all ! refl ((tt, words), tt) $ let Ev = env fn.locals l in let y = at_into E 𝓛 𝓜.mem 𝓡.returns κ q r b o in
    first ! $ blocks ! $ sets ! (of_opd ! (get ! refl)) refl (tt, words) $
    use2 𝓛 (raw ((Into E 𝓛 𝓜.mem 𝓡.returns).pre y)) (Into-goes E 𝓛 𝓜.mem 𝓡.returns κ q r b o le) $
    calls_at_last ! (fm 𝓛 𝓜 𝓡) (Into E 𝓛 𝓜.mem 𝓡.returns) met y (and_then ! (get ! refl) (no_more !)) (λ v.
    use1 𝓛 (later (given (v ≡ row_val b o k) (‵ (places E b o xs fs) ⊛ ‵ (flft κ q)))) (Into-gives E 𝓛 𝓜.mem 𝓡.returns κ q r b o v at) $ await ! tt $ learn ! (λ ev. split ! $
    lands_last ! refl (parts_typed v b o k ev fk) $ exec ! 𝓣.C 𝓣.Λ Ev (tail fn.body) (at_ret Ev Post) $
    sets ! (is ! (of_opd ! (get ! refl)) ev) refl (tt, words) $ sets ! (agg ! (and_then ! (get_in ! (fld ! refl (stop !)) (sub ! 0 refl (whole !))) (and_then ! (get_in ! (fld ! refl (stop !)) (sub ! 1 refl (whole !))) (no_more !)))) refl (tt, words) $
    let is_full : fs ≡ replicate k true = filled fs k (sym lf) (λ j h. full j (omega arith) h) in
    rewrite ! 0 (λ (gs : List Bool). ‵ (slots R p xs gs)) is_full refl $ room_made E ! new b o refl fk fit $
    nothing ! $ move ! (2 ∷ 0 ∷ []) $ join ! $
    use0 𝓛 (raw (fact 𝓤 Told)) (fact_i 𝓤 Told (emp 𝓤) (sym at, refl, refl)) $ nothing ! $ nothing ! $ fjoin ! $
    returns ! (look_at ! 0 refl) $ free_all ! refl $ keep ! (2 ∷ 0 ∷ 3 ∷ 1 ∷ []) $ by ! (leaves 𝓛 En hs c z (row_val b o k) new (tt, tt) (tt, tt)))))))))
