-- What a `Room` owns is taken apart and made, at any element type. Assumes `Logic`.
use mathlib.Core.Path.{◌≡◌, refl, sym, ap, ◌∙◌}
use Prim.Native.Nat.{ℕ, ◌*◌, ◌<◌, ◌^◌}
use mathlib.Core.List.{List, [], ◌∷◌, ◌++◌}
use seplogic.Ra.Ura.{Ura}
use mir.Syntax.{w64}
use mir.Val.{Val, vint, vptr, vstruct, of_list}
use base.Logic.{id⊢, never}
use base.Fml.{Lft, GName, Share, Fml, fsep, flt, flft, fobs, fauth, fbor, fobor}
use base.Fraction.{full_share}
use types.Logic.{Logic}
use types.SemTy.{Body}
use types.Kit.{Goal, Soaks, Step, step, move, Seq, Item, ‵, ◌$◌, drop, rewrite, fsplit, fjoin, fpick, fpack, feq_l, feq_i, flt_l, flt_i}
use denote.RattleType.{RattleType, Valss}
use denote.RawPtr.{Ptr, block_ptr, in_block, in_a_block}
use denote.Memory.{cell_at, mem}
use denote.Steps.{opens, nothing}
use denote.Struct.Struct.{Struct, within}
use denote.Struct.Owning.{Owning, shape}
use Rattle.core.proofs.mem.Param.{El, R, el_x}
use Rattle.core.specs.Mem.Slots.Ownership.{slots}
use Rattle.apl_rooms.specs.declared.room.Room.{Room}
use mathlib.Core.Bool.{true}
use lib.ListN.{replicate}
use Rattle.apl_rooms.specs.contracts.room.Room as C
use Rattle.core.proofs.slots.Places.{sz}
use Rattle.core.proofs.slots.Opens.{words_val, row_val}

module _ (E : El) where
  abbrev pub owning : Owning
  owning = C.the_type (R E)

  abbrev pub Rr : RattleType
  Rr = C.the_row (R E)

  abbrev pub room_d : Type 0
  room_d = Room (el_x E)

  -- the two data fields, as a plain struct
  abbrev pub Words : RattleType
  Words = Struct (shape owning)

  abbrev pub places : room_d → ℕ → ℕ → Fml
  places d b o = slots (R E) (block_ptr b o) d.items (replicate d.len true)

module _ (E : El) {M : Type 1} {𝓤 : Ura M} {𝓛 : Logic 𝓤} {K : Type 0} {Γ : List (Item 𝓤)} {G : Goal 𝓤 𝓛.H} where
  pub room_had : K → (d : room_d E) (vs : List Val)
      → ((b o : ℕ) → d.ptr ≡ block_ptr b o → vs ≡ row_val b o d.len ∷ [] → d.len < 2 ^ 64 → d.len * sz E < 2 ^ 63 → Seq K 𝓛 (‵ (places E d b o) ∷ Γ) G)
      → Seq K 𝓛 (‵ ((Rr E).own_val d vs) ∷ Γ) G
  room_had t d vs k =
      fsplit t $ fpick t (λ vss. fsplit t $ feq_l t (λ all. fsplit t $ feq_l t (λ e₀. fsplit t $ fsplit t $ feq_l t (λ e₁. flt_l t (λ fn. drop t $ fsplit t $ flt_l t (λ fit.
      in_a_block t d.ptr (λ p. in_block p (slots (R E) p d.items (replicate d.len true))) (id⊢ 𝓤 (never 𝓤)) (λ b o e.
      k b o e (all ∙ ((λ i. vstruct (of_list (e₀ i ++ (e₁ i ++ []))) ∷ []) ∙ ap (λ (p : Ptr). words_val p d.len ∷ []) e)) fn fit)))))))

  pub room_made : K → (d : room_d E) (b o : ℕ) → d.ptr ≡ block_ptr b o → d.len < 2 ^ 64 → d.len * sz E < 2 ^ 63
      → Step K 𝓛 (‵ ((Rr E).own_val d (row_val b o d.len ∷ [])) ∷ Γ) G (‵ (places E d b o) ∷ Γ) G
  room_made t d b o at fn fit = step (λ s.
      flt_i t (d.len * sz E) (2 ^ 63) fit $ fjoin t $
      nothing t $ flt_i t d.len (2 ^ 64) fn $ feq_i t (List Val) (vint w64 d.len ∷ []) (vint w64 d.len ∷ []) refl $ fjoin t $ fjoin t $
      feq_i t (List Val) (vptr b o ∷ []) (vptr b o ∷ []) refl $ fjoin t $ feq_i t (List Val) (row_val b o d.len ∷ []) (row_val b o d.len ∷ []) refl $ fjoin t $
      fpack t (Valss (shape (owning E)).fields) (within (shape (owning E)) (block_ptr b o, (d.len, tt)) (row_val b o d.len ∷ [])) (vptr b o ∷ [], (vint w64 d.len ∷ [], tt)) $ fjoin t $
      rewrite t 0 (λ (p : Ptr). ‵ (fsep ((Words E).own_val (p, (d.len, tt)) (row_val b o d.len ∷ [])) (fsep (flt (d.len * sz E) (2 ^ 63)) (in_block p (slots (R E) p d.items (replicate d.len true)))))) (sym at) refl $ s)

module _ (E : El) {M : Type 1} {𝓤 : Ura M} {𝓛 : Logic 𝓤} {K : Type 0} {Γ : List (Item 𝓤)} {G : Goal 𝓤 𝓛.H} where
  -- [the places; the two words; the open borrow; obs; auth]
  pub room_opens : K → Soaks G → {κ : Lft} {q : Share} {γ : GName} (d : room_d E) (rb ro : ℕ)
      → ((b o : ℕ) → d.ptr ≡ block_ptr b o → d.len < 2 ^ 64 → d.len * sz E < 2 ^ 63
      → Seq K 𝓛 (‵ (places E d b o) ∷ ‵ (cell_at full_share (Rr E).mir (row_val b o d.len ∷ []) rb ro) ∷ ‵ (fobor κ q (Body (mem (Rr E)) rb ro γ)) ∷ ‵ (fobs γ ((Rr E).coded.code d)) ∷ ‵ (fauth γ ((Rr E).coded.code d)) ∷ Γ) G)
      → Seq K 𝓛 (‵ (fobs γ ((Rr E).coded.code d)) ∷ ‵ (fbor κ (Body (mem (Rr E)) rb ro γ)) ∷ ‵ (flft κ q) ∷ Γ) G
  room_opens t z d rb ro k =
      opens t z (Rr E) {h = d} rb ro (λ vs. move t (1 ∷ []) $ room_had E t d vs (λ b o e is fn fit.
      rewrite t 1 (λ (ws : List Val). ‵ (cell_at full_share (Rr E).mir ws rb ro)) is refl $ k b o e fn fit))
