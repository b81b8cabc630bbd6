mod Unheard
