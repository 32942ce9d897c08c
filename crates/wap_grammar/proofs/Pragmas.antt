-- Pragmas are read as they are spelled.
use Rattle.std.proofs.Common.{◌≡◌, ℕ, true, false, List, ◌∷◌, Option, Some}
use Rattle.std.proofs.Common.{None, Ok, refl, sym, subst, inl, inr, arith}
use Rattle.wap_base.specs.Outcome.{◌>>=◌}
use Rattle.wap_base.proofs.Choices.{chosen}
use Rattle.wap_grammar.specs.declared.program.program.Span.{Span}
use Rattle.wap_grammar.specs.declared.program.program.Use.{Use}
use Rattle.wap_grammar.specs.declared.program.program.Use.TheVariants as pragma
use Rattle.wap_grammar.specs.declared.lexeme.Lexeme.{Lexeme}
use Rattle.wap_grammar.specs.declared.word.Word.{Word}
use Rattle.wap_grammar.specs.declared.word.Word.TheVariants as word
use Rattle.wap_grammar.specs.declared.word.Sign.{Sign}
use Rattle.wap_grammar.specs.declared.word.Sign.TheVariants as signs
use Rattle.wap_grammar.specs.Lexemes.{word_of, is_same_sign, is_sign, is_text}
use Rattle.wap_grammar.specs.Values.{id_of, text_of}
use Rattle.wap_grammar.specs.Spellings.{Spelling, name, sign, Several}
use Rattle.wap_grammar.specs.Programs.{text, from_to, IsAccess, domain, path, both}
use Rattle.wap_grammar.specs.Programs.{IsProperty, plain, schemed, IsUse, url, access}
use Rattle.wap_grammar.specs.Programs.{name_meta, http_equiv, user_agent, IsParameter, parameter}
use Rattle.wap_grammar.specs.reading.TokenReading.{Reading, span_of, after, told, expect_at}
use Rattle.wap_grammar.specs.reading.TokenReading.{closed, items_at}
use Rattle.wap_grammar.specs.reading.Programs.{text_at, signed_at, access_by, access_at}
use Rattle.wap_grammar.specs.reading.Programs.{scheme_at, property_at, agent_of, note_of}
use Rattle.wap_grammar.specs.reading.Programs.{url_at, who_at, meta_at, use_at, next_use}
use Rattle.wap_grammar.proofs.Firsts.{value_same, sign_first, closed_ok}
use Rattle.wap_grammar.proofs.Items.{Reads, reads_items, Again, Implies, Shorter, Takes, Within}
use Rattle.wap_grammar.proofs.Productions.{Anything, Given, given, Made, made, Turn, turn, Behind}
use Rattle.wap_grammar.proofs.Productions.{behind, Before, before, Either, Lone, lone, Tests, is_a}
use Rattle.wap_grammar.proofs.Productions.{mapped, reads_given, reads_made, reads_turn, reads_then}
use Rattle.wap_grammar.proofs.Productions.{reads_either, reads_behind, reads_before, reads_lone}
use Rattle.wap_grammar.proofs.Productions.{reads_name, bars_behind, bars_either, bars_given}
use Rattle.wap_grammar.proofs.Productions.{opposite, otherwise, held, reads_each}

text_is : (w : Word) → is_text w ≡ true → w ≡ word.Str
text_is word.Str e = refl
text_is (word.Sign s) e = absurd cc
text_is w e = absurd cc

a_text : Tests is_text word.Str
a_text = record { holds = refl; none = refl; only = text_is }

abbrev Text : Type 0
Text = List ℕ

module _ (src : List ℕ) where
  abbrev IsText : Spelling Text
  IsText = Lone word.Str (text_of src)

  reads_text : {E : List Lexeme → Type 0} → Reads IsText E (text_at src)
  unfolding text_at
  reads_text = reads_lone src is_text (text_of src) a_text

  -- ---- who may call

  abbrev Lacks : Sign → List Lexeme → Type 0
  Lacks s a = is_sign s (word_of a) ≡ false

  -- a sign and a string, or nothing
  abbrev Signed : Sign → Spelling (Option Text)
  Signed s = Either (Behind (word.Sign s) (Made Some IsText)) (Given None)

  reads_signed : (s : Sign) → is_same_sign s s ≡ true → Reads (Signed s) (Lacks s) (signed_at src s)
  unfolding signed_at
  reads_signed s same = reads_either (is_sign s) (is_a s same) (reads_made Some reads_text)
      (reads_given None) (bars_given (λ b over. over))

  -- one of them at least
  abbrev Who : Option Text → Option Text → Spelling (Option Text × Option Text)
  Who None None a x b = ⊥
  Who (Some d) p a x b = Given (Some d, p) a x b
  Who None (Some p) a x b = Given (None, Some p) a x b

  reads_who : {E : List Lexeme → Type 0} (d p : Option Text) →
      Reads (Who d p) E (access_by src d p)
  reads_who None None = record {
    takes = λ a x b e. absurd cc;
    again = λ a x b is over. absurd is;
    within = λ a x b is. absurd is;
  }
  reads_who (Some d) None = reads_given (Some d, None)
  reads_who (Some d) (Some p) = reads_given (Some d, Some p)
  reads_who None (Some p) = reads_given (None, Some p)

  abbrev Access : Spelling (Option Text × Option Text)
  Access = Turn (Signed signs.Domain) (λ d. Turn (Signed signs.Path) (λ p. Who d p))

  access_from : (a : List Lexeme) (d : Option Text) (c : List Lexeme) → Signed signs.Domain a d c →
      (p : Option Text) (e : List Lexeme) → Signed signs.Path c p e →
      (x : Option Text × Option Text) (b : List Lexeme) → Who d p e x b → IsAccess src a x b
  access_from a d c (inr (given a')) p e (inr (given c')) x b is = absurd is
  access_from a d c (inr (given a')) p e (inl (behind w c' e' p' (made c2 e2 t (lone v y)))) x b
      (given e3) = path w v e
  access_from a d c (inl (behind w a' c' d' (made a2 c2 t (lone v y)))) p e (inr (given c3)) x b
      (given e3) = domain w v c
  access_from a d c (inl (behind w a' c' d' (made a2 c2 t (lone v y)))) p e
      (inl (behind w2 c3 e' p' (made c4 e2 t2 (lone v2 z)))) x b (given e3) = both w v w2 v2 e

  access_to : Implies (IsAccess src) Access
  access_to a x b (domain w d b') = turn a b b (Some (text_of src d)) x
      (inl (behind w _ b _ (made _ b _ (lone d b)))) (turn b b b None x (inr (given b)) (given b))
  access_to a x b (path w p b') = turn a a b None x (inr (given a)) (turn a b b
      (Some (text_of src p)) x (inl (behind w _ b _ (made _ b _ (lone p b)))) (given b))
  access_to a x b (both v d w p b') = turn a _ b (Some (text_of src d)) x
      (inl (behind v _ _ _ (made _ _ _ (lone d _)))) (turn _ b b (Some (text_of src p)) x
      (inl (behind w _ b _ (made _ b _ (lone p b)))) (given b))

  abbrev LacksBoth : List Lexeme → Type 0
  LacksBoth a = Lacks signs.Domain a × Lacks signs.Path a

  reads_access : Reads (IsAccess src) LacksBoth (access_at src)
  unfolding access_at
  reads_access = mapped (reads_turn (reads_signed signs.Domain refl) (λ d. reads_turn
      (reads_signed signs.Path refl) (λ p. reads_who d p) (λ p a x b. no_path d p a x b)) no_domain)
      from access_to where
        no_path : (d p : Option Text) (a : List Lexeme) (x : Option Text × Option Text)
            (b : List Lexeme) → Who d p a x b → LacksBoth b → Lacks signs.Path a
        no_path None None a x b is over = absurd is
        no_path (Some d) p a x b (given a') over = over.1
        no_path None (Some p) a x b (given a') over = over.1

        ends : (d p : Option Text) (a : List Lexeme) (x : Option Text × Option Text)
            (b : List Lexeme) → Who d p a x b → LacksBoth b → Lacks signs.Domain a
        ends None None a x b is over = absurd is
        ends (Some d) p a x b (given a') over = over.0
        ends None (Some p) a x b (given a') over = over.0

        no_domain : (d : Option Text) (a : List Lexeme) (x : Option Text × Option Text)
            (b : List Lexeme) → Turn (Signed signs.Path) (λ p. Who d p) a x b → LacksBoth b →
            Lacks signs.Domain a
        no_domain d a x b (turn a' c b' p x' (inl (behind w a2 c' p' is)) who) over = refl
        no_domain d a x b (turn a' c b' p x' (inr (given a2)) who) over = ends d None a x b who over

        from : Implies Access (IsAccess src)
        from a x b (turn a' c b' d x' one (turn c' e b2 p x2 two who)) =
            access_from a d c one p e two x b who

  -- ---- properties

  abbrev Property : Type 0
  Property = Text × Text × Option Text

  abbrev NoText : List Lexeme → Type 0
  NoText a = is_text (word_of a) ≡ false

  data IsScheme : List Lexeme → Option Text → List Lexeme → Type 0 where
    no_scheme : (x : List Lexeme) → IsScheme x None x
    a_scheme : (s : Span) (x : List Lexeme) → IsScheme (text s ∷ x) (Some (text_of src s)) x

  reads_scheme : Reads IsScheme NoText (scheme_at src)
  unfolding scheme_at text_at
  reads_scheme = record { takes = takes; again = again; within = within } where
    by_text : Implies (Made Some IsText) IsScheme
    by_text a o b (made a' b' t (lone s c)) = a_scheme s c

    takes : Takes IsScheme (scheme_at src)
    takes a o b e = elim (chosen (is_text (word_of a)) _ _ (Ok (o, b)) e) [
      | inl so ↦ by_text a o b ((reads_made Some (reads_text {E = Anything})).takes a o b so.1)
      | inr so ↦ (
          let same = value_same (None, a) (o, b) so.1 in
          rw (sym same.0, sym same.1) (no_scheme a))
    ]

    again : Again IsScheme NoText (scheme_at src)
    again a o b (no_scheme a') over = rw over refl
    again a o b (a_scheme s x) over = refl

    within : Within IsScheme
    within a o b (no_scheme a') = omega arith
    within a o b (a_scheme s x) = omega arith

  property_from : (n m : Span) (a : List Lexeme) (x : Property) (b : List Lexeme) →
      Made (λ s. (text_of src n, text_of src m, s)) IsScheme a x b →
      IsProperty src (text n ∷ text m ∷ a) x b
  property_from n m a x b (made a' b' s (no_scheme c)) = plain n m b
  property_from n m a x b (made a' b' s (a_scheme v c)) = schemed n m v b

  reads_property : Reads (IsProperty src) NoText (property_at src)
  unfolding property_at
  reads_property = mapped (reads_then reads_text (λ n. reads_then reads_text (λ c.
      reads_made (λ s. (n, c, s)) reads_scheme))) from to where
        InTurn : Spelling Property
        InTurn = Turn IsText (λ n. Turn IsText (λ c. Made (λ s. (n, c, s)) IsScheme))

        from : Implies InTurn (IsProperty src)
        from a x b (turn a' c b' n x' (lone v c') (turn c2 d b2 m x2 (lone w d') rest)) =
            property_from v w d x b rest

        to : Implies (IsProperty src) InTurn
        to a x b (plain n c b') = turn a _ b (text_of src n) x (lone n _)
            (turn _ b b (text_of src c) x (lone c b) (made b b None (no_scheme b)))
        to a x b (schemed n c s b') = turn a _ b (text_of src n) x (lone n _)
            (turn _ _ b (text_of src c) x (lone c _) (made _ b _ (a_scheme s b)))

  -- ---- pragmas

  -- who may call, and the `;`, whose place is told too
  data Reached (w : Span) (who : Option Text × Option Text) : List Lexeme → Use → List Lexeme →
      Type 0 where
    reached : (end : Span) (a : List Lexeme) → Reached w who (sign signs.Semicolon end ∷ a)
        (pragma.Access who.0 who.1 (from_to w end)) a

  reads_reached : {E : List Lexeme → Type 0} (w : Span) (who : Option Text × Option Text) →
      Reads (Reached w who) E (λ a. closed src signs.Semicolon
      (pragma.Access who.0 who.1 (from_to w (span_of a)), a))
  unfolding expect_at
  reads_reached {E = E} w who = record { takes = takes; again = again; within = within } where
    read : List Lexeme → Reading Use
    read a = closed src signs.Semicolon (pragma.Access who.0 who.1 (from_to w (span_of a)), a)

    takes : Takes (Reached w who) read
    takes a u b e =
        let end = closed_ok src signs.Semicolon
        (pragma.Access who.0 who.1 (from_to w (span_of a)), a) u b e in
        rw (end.1, sym end.0) (reached (span_of a) b)

    again : Again (Reached w who) E read
    again a u b (reached end c) over = refl

    within : Within (Reached w who)
    within a u b (reached end c) = omega arith

  -- a property and the `;`
  abbrev Told : (Property → Use) → Spelling Use
  Told make = Made make (Before signs.Semicolon (IsProperty src))

  reads_told : {E : List Lexeme → Type 0} (make : Property → Use) → Reads (Told make) E
      (λ a. told make (property_at src a >>= closed src signs.Semicolon))
  reads_told make = reads_made make
      (reads_before src signs.Semicolon refl reads_property (λ span b. refl))

  -- a pragma after its `use`, by the word that follows
  abbrev Url : Spelling Use
  Url = Turn (IsParameter src) (λ u. Made (pragma.Url u) (Before signs.Semicolon IsText))

  abbrev Agent : Spelling Use
  Agent = Behind (word.Sign signs.User) (Behind (word.Sign signs.Agent) (Told agent_of))

  abbrev Equiv : Spelling Use
  Equiv = Behind (word.Sign signs.Http) (Behind (word.Sign signs.Equiv) (Told note_of))

  abbrev Meta : Spelling Use
  Meta = Behind (word.Sign signs.Meta) (Either (Behind (word.Sign signs.NameWord) (Told note_of))
      (Either Equiv Agent))

  abbrev Reach : Span → Spelling Use
  Reach w = Behind (word.Sign signs.Access) (Turn (IsAccess src) (λ who. Reached w who))

  abbrev Rest : Span → Spelling Use
  Rest w = Either (Behind (word.Sign signs.Url) Url) (Either (Reach w) Meta)

  reads_rest : (w : Span) → Reads (Rest w) Anything (use_at src w)
  unfolding use_at url_at who_at meta_at
  reads_rest w = reads_either (is_sign signs.Url) (is_a signs.Url refl)
      (reads_then (reads_name src) (λ u. reads_made (pragma.Url u)
      (reads_before src signs.Semicolon refl (reads_text {E = Anything}) (λ span b. tt))))
      (reads_either (is_sign signs.Access) (is_a signs.Access refl)
      (reads_turn reads_access (reads_reached w) ends)
      (reads_behind src signs.Meta refl
      (reads_either (is_sign signs.NameWord) (is_a signs.NameWord refl) (reads_told note_of)
      (reads_either (is_sign signs.Http) (is_a signs.Http refl)
      (reads_behind src signs.Equiv refl (reads_told note_of))
      (reads_behind src signs.User refl (reads_behind src signs.Agent refl (reads_told agent_of)))
      (bars_behind refl)) (bars_either (bars_behind refl) (bars_behind refl)))) (bars_behind refl))
      (bars_either (bars_behind refl) (bars_behind refl)) where
        ends : (who : Option Text × Option Text) (a : List Lexeme) (u : Use) (b : List Lexeme) →
            Reached w who a u b → Anything b → LacksBoth a
        ends who a u b (reached end c) over = (refl, refl)

  url_from : (w kind v : Span) (a : List Lexeme) (u : Use) (b : List Lexeme) →
      Made (pragma.Url (id_of src v)) (Before signs.Semicolon IsText) a u b →
      IsUse src (sign signs.Use w ∷ sign signs.Url kind ∷ name v ∷ a) u b
  url_from w kind v a u b (made a' b' t (before end a2 b2 t' (lone s c))) = url w kind v s end b

  access_reached : (w kind : Span) (a c : List Lexeme) (who : Option Text × Option Text) →
      IsAccess src a who c → (u : Use) (b : List Lexeme) → Reached w who c u b →
      IsUse src (sign signs.Use w ∷ sign signs.Access kind ∷ a) u b
  access_reached w kind a c who one u b (reached end c') = access w kind end a b who.0 who.1 one

  rest_from : (w : Span) (a : List Lexeme) (u : Use) (b : List Lexeme) → Rest w a u b →
      IsUse src (sign signs.Use w ∷ a) u b
  rest_from w a u b (inl (behind kind c b' u' (turn c' d b2 v u2 (parameter s d') rest))) =
      url_from w kind s d u b rest
  rest_from w a u b (inr (inl (behind kind c b' u' (turn c' d b2 who u2 one two)))) =
      access_reached w kind c d who one u b two
  rest_from w a u b (inr (inr (behind kind c b' u' (inl (behind of d b2 u2
      (made d' b3 p (before end d2 b4 p' is))))))) =
      name_meta w kind of end d b p.0 p.1 p.2 is
  rest_from w a u b (inr (inr (behind kind c b' u' (inr (inl (behind http d b2 u2
      (behind equiv e b3 u3 (made e' b4 p (before end e2 b5 p' is))))))))) =
      http_equiv w kind http equiv end e b p.0 p.1 p.2 is
  rest_from w a u b (inr (inr (behind kind c b' u' (inr (inr (behind user d b2 u2
      (behind agent e b3 u3 (made e' b4 p (before end e2 b5 p' is))))))))) =
      user_agent w kind user agent end e b p.0 p.1 p.2 is

  data Used : List Lexeme → Use → List Lexeme → Type 0 where
    used : (w : Span) (a : List Lexeme) (u : Use) (b : List Lexeme) → Rest w a u b →
        Used (sign signs.Use w ∷ a) u b

  used_by : Implies (IsUse src) Used
  used_by a u b (url w kind v t end x) = used w _ u b (inl (behind kind _ b u
      (turn _ _ b (id_of src v) u (parameter v _) (made _ b _ (before end _ b _ (lone t _))))))
  used_by a u b (access w kind end x b' d p is) = used w _ u b (inr (inl (behind kind x b u
      (turn x _ b (d, p) u is (reached end b)))))
  used_by a u b (name_meta w kind of end x b' n c s is) = used w _ u b (inr (inr
      (behind kind _ b u (inl (behind of x b u (made x b (n, c, s) (before end x b _ is)))))))
  used_by a u b (http_equiv w kind http equiv end x b' n c s is) = used w _ u b (inr (inr
      (behind kind _ b u (inr (inl (behind http _ b u (behind equiv x b u
      (made x b (n, c, s) (before end x b _ is)))))))))
  used_by a u b (user_agent w kind user agent end x b' n c s is) = used w _ u b (inr (inr
      (behind kind _ b u (inr (inr (behind user _ b u (behind agent x b u
      (made x b (n, c, s) (before end x b _ is)))))))))

  used_again : (a : List Lexeme) (u : Use) (b : List Lexeme) → Used a u b →
      use_at src (span_of a) (after a) ≡ Ok (u, b)
  used_again a u b (used w x u' b' is) = (reads_rest w).again x u b is tt

  used_first : (a : List Lexeme) (u : Use) (b : List Lexeme) → Used a u b →
      opposite (is_sign signs.Use (word_of a)) ≡ false
  used_first a u b (used w x u' b' is) = refl

  used_shorter : Shorter Used
  used_shorter a u b (used w x u' b' is) = omega (arith, (reads_rest w).within x u b is)

  abbrev pub NoUse : List Lexeme → Type 0
  NoUse a = is_sign signs.Use (word_of a) ≡ false

  pub reads_uses : Reads (Several (IsUse src)) NoUse (items_at (next_use src))
  unfolding next_use
  reads_uses = reads_items {Inside = Anything} (reads_each
      (λ a. opposite (is_sign signs.Use (word_of a))) (λ a. use_at src (span_of a) (after a))
      (λ a. otherwise (is_sign signs.Use (word_of a)) (told Some (use_at src (span_of a) (after a)))
      (Ok (None, a))) item (λ a u b is over. used_again a u b (used_by a u b is))
      (λ a u b is. (used_first a u b (used_by a u b is), tt)) (λ b over. (rw over refl, tt))
      (λ a u b is. used_shorter a u b (used_by a u b is))) where
        item : (a : List Lexeme) (u : Use) (b : List Lexeme) →
            opposite (is_sign signs.Use (word_of a)) ≡ false →
            use_at src (span_of a) (after a) ≡ Ok (u, b) → IsUse src a u b
        item a u b so e = subst (λ c. IsUse src c u b)
            (sym (sign_first signs.Use a (held (is_sign signs.Use (word_of a)) so)))
            (rest_from (span_of a) (after a) u b ((reads_rest (span_of a)).takes (after a) u b e))
