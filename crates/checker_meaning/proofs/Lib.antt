mod Negation
