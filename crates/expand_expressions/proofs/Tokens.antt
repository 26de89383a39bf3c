-- The tokens of a text, one behind the other.
use Rattle.std.proofs.Common.{◌≡◌, ℕ, ◌+◌, inl, inr, List, [], ◌∷◌, ◌++◌, length, replicate, refl, sym, ap, ◌∙◌, subst, arith}
use Rattle.std.proofs.lemmas.List.{append_assoc, append-nil, replicate-append-replicate}
use Rattle.expand_expressions.specs.declared.known.NamedOperand.{NamedOperand}
use Rattle.expand_expressions.specs.declared.token.Token.{Token}
use Rattle.expand_expressions.specs.declared.token.Token.TheVariants.{Digits, Name, Operator, Not, Call, Open, Close, Comma}
use Rattle.expand_expressions.specs.Words.{begins_word, IsWordInFront, IsBehindSpaces}
use Rattle.expand_expressions.specs.Reading.{IsSign, IsTokenText, BeginsWith, BeginsWithSign, HasTokens}

-- a word that ends where it can't go on
pub word_first : (operands : List NamedOperand) (readable : List (List ℕ)) (text word rest : List ℕ) (token : Token) → IsWordInFront text word rest → IsTokenText operands readable token word → BeginsWith operands readable text token rest
word_first operands readable text word rest token front h = (word, front.0, inr front.2, h)

pub sign_first : (operands : List NamedOperand) (readable : List (List ℕ)) (text : List ℕ) (token : Token) (rest : List ℕ) → BeginsWithSign text token rest → BeginsWith operands readable text token rest
sign_first operands readable text (Operator sign) rest h = (h.0, h.1, inl h.2.1, h.2.0)
sign_first operands readable text Open rest h = (h.0, h.1, inl (ap begins_word h.2), h.2)
sign_first operands readable text Close rest h = (h.0, h.1, inl (ap begins_word h.2), h.2)
sign_first operands readable text Comma rest h = (h.0, h.1, inl (ap begins_word h.2), h.2)
sign_first operands readable text (Digits n) rest h = elim h.2 [ ]
sign_first operands readable text (Name a) rest h = elim h.2 [ ]
sign_first operands readable text Not rest h = elim h.2 [ ]
sign_first operands readable text (Call combination) rest h = elim h.2 [ ]

replicate_both : (n m : ℕ) (rest : List ℕ) → replicate n 32 ++ (replicate m 32 ++ rest) ≡ replicate (n + m) 32 ++ rest
replicate_both n m rest = sym (append_assoc (replicate n 32) (replicate m 32) rest) ∙ ap (λ front. front ++ rest) (replicate-append-replicate n m 32)

spaces_both : (a b c : List ℕ) → IsBehindSpaces a b → IsBehindSpaces b c → IsBehindSpaces a c
spaces_both a b c x y = (x.0 + y.0, x.1 ∙ ap (λ r. replicate x.0 32 ++ r) y.1 ∙ replicate_both x.0 y.0 c)

spaces_in_front : (operands : List NamedOperand) (readable : List (List ℕ)) (text rest : List ℕ) (tokens : List Token) → IsBehindSpaces text rest → HasTokens operands readable rest tokens → HasTokens operands readable text tokens
spaces_in_front operands readable text rest [] is h = spaces_both text rest [] is h
spaces_in_front operands readable text rest (token ∷ tokens) is h = (h.0, h.1, spaces_both text rest h.0 is h.2, h.3, h.4)

-- these tokens stand in front of the rest
abbrev pub AreInFront : List NamedOperand → List (List ℕ) → List ℕ → List ℕ → List Token → Type 0
AreInFront operands readable text rest tokens = (more : List Token) → HasTokens operands readable rest more → HasTokens operands readable text (tokens ++ more)

pub none_in_front : (operands : List NamedOperand) (readable : List (List ℕ)) (text rest : List ℕ) (tokens : List Token) → tokens ≡ [] → IsBehindSpaces text rest → AreInFront operands readable text rest tokens
none_in_front operands readable text rest tokens none is = λ more h.
    subst (λ tokens. HasTokens operands readable text (tokens ++ more)) (sym none) (spaces_in_front operands readable text rest more is h)

pub one_more : (operands : List NamedOperand) (readable : List (List ℕ)) (text rest after next : List ℕ) (tokens items : List Token) (token : Token) → items ≡ tokens ++ token ∷ [] →
    AreInFront operands readable text rest tokens → BeginsWith operands readable rest token after → IsBehindSpaces after next → AreInFront operands readable text next items
one_more operands readable text rest after next tokens items token is front begins spaces = λ more h.
    let all : HasTokens operands readable text (tokens ++ token ∷ more) = front (token ∷ more) (rest, after, (0, refl), begins, spaces_in_front operands readable after next more spaces h) in
    let same : items ++ more ≡ tokens ++ token ∷ more = ap (λ items. items ++ more) is ∙ append_assoc tokens (token ∷ []) more in
    subst (λ tokens. HasTokens operands readable text tokens) (sym same) all

empty : (rest : List ℕ) → length rest ≡ 0 → rest ≡ []
empty [] h = refl
empty (x ∷ xs) h = absurd (omega (arith, h))

pub all_in_front : (operands : List NamedOperand) (readable : List (List ℕ)) (text rest : List ℕ) (tokens : List Token) → AreInFront operands readable text rest tokens → length rest ≡ 0 → HasTokens operands readable text tokens
all_in_front operands readable text rest tokens front none =
    subst (λ tokens. HasTokens operands readable text tokens) (append-nil tokens) (front [] (0, empty rest none))
